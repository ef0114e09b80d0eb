-- The words of the answers on stored plans. 02, No. 7: "Too short a buffer for it is new refusal 33"; "27 with the place of the first byte that differs, or
-- the shorter length"; counts are 0 but for a reading's own refusal. Assumes nothing.
use Rattle.std.specs.Prelude.{ℕ, ◌≡◌, Option, Some, None, Result, Ok, Err}
use Rattle.c_answers.specs.declared.Answer.{Answer}
use Rattle.c_answers.specs.Answers.{answer_of, yes}
use Rattle.c_faults.specs.Faults.{fault_answer}
use Rattle.c_call_answers.specs.Calls.{call_answer}
use Rattle.sig_items.specs.declared.Fault.{Fault}
use Rattle.plan_stored.specs.declared.StoreRefusal.{StoreRefusal}
use Rattle.plan_stored.specs.Stored.{store_number, check_number}
use Rattle.call_fill_stored.specs.declared.StoredError.{StoredError}
use Rattle.call_fill_stored.specs.FillStored.{StoredFill, stored_fill_number}
use Rattle.c_stored.specs.declared.Stored.{Stored}

-- the stored plan's length; a refused one has the length 0
unfoldable pub stored_words : Result ℕ StoreRefusal → Stored
stored_words (Ok n) = record { answer = yes; length = n }
stored_words (Err (StoreRefusal.Unread f)) = record { answer = fault_answer f; length = 0 }
stored_words (Err StoreRefusal.TooShort) = record { answer = answer_of (store_number (Err StoreRefusal.TooShort)) 0; length = 0 }

unfoldable pub check_words : Result (Option ℕ) Fault → Answer
check_words (Ok None) = yes
check_words (Err f) = fault_answer f
check_words (Ok (Some place)) = answer_of (check_number (Ok (Some place))) place

unfoldable pub stored_fill_words : StoredFill → Answer
stored_fill_words (Ok tt) = yes
stored_fill_words (Err (StoredError.Call e)) = call_answer (Err e)
stored_fill_words (Err (StoredError.Stale place)) = answer_of (stored_fill_number (Err (StoredError.Stale place))) place

-- each has the number that the definitions give it; proofs/Laws.antt proves it
pub record StoredNumbered : Type 0 where
  pub stored : (a : Result ℕ StoreRefusal) → (stored_words a).answer.number ≡ store_number a
  pub check : (a : Result (Option ℕ) Fault) → (check_words a).number ≡ check_number a
  pub fill : (a : StoredFill) → (stored_fill_words a).number ≡ stored_fill_number a
