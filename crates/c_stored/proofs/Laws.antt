-- Each answer has the number that the definitions give it. Assumes nothing.
use mathlib.Core.Path.{◌≡◌, refl}
use Rattle.c_faults.specs.Faults.{fault_answer}
use Rattle.c_call_answers.specs.Calls.{call_answer}
use Prim.Native.Nat.{ℕ}
use Rattle.sig_items.specs.declared.Fault.{Fault}
use Rattle.plan_stored.specs.declared.StoreRefusal.{StoreRefusal}
use Rattle.plan_stored.specs.Stored.{store_number, check_number}
use Rattle.call_fill_stored.specs.declared.StoredError.{StoredError}
use Rattle.call_fill_stored.specs.FillStored.{StoredFill, stored_fill_number}
use Rattle.c_stored.specs.Stored.{stored_words, check_words, stored_fill_words, StoredNumbered}
use Rattle.std.proofs.Common.{Option, Some, None, Result, Ok, Err}
use Rattle.call_slots.specs.declared.CallError.{CallError}

stored-number : (a : Result ℕ StoreRefusal) → (stored_words a).answer.number ≡ store_number a
unfolding stored_words fault_answer
stored-number (Ok n) = refl
stored-number (Err (StoreRefusal.Unread f)) = refl
stored-number (Err StoreRefusal.TooShort) = refl

check-number : (a : Result (Option ℕ) Fault) → (check_words a).number ≡ check_number a
unfolding check_words fault_answer
check-number (Ok None) = refl
check-number (Err f) = refl
check-number (Ok (Some place)) = refl

fill-number : (a : StoredFill) → (stored_fill_words a).number ≡ stored_fill_number a
unfolding stored_fill_words call_answer fault_answer
fill-number (Ok tt) = refl
fill-number (Err (StoredError.Call (CallError.Unread f))) = refl
fill-number (Err (StoredError.Call (CallError.Refused reason))) = refl
fill-number (Err (StoredError.Stale place)) = refl

pub numbered : StoredNumbered
numbered = record { stored = stored-number; check = check-number; fill = fill-number }
