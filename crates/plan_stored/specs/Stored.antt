-- Stored plans. 02, No. 7: "Write a plan to bytes, headers as in signatures: tag 0x20 holds the signature's own bytes, then a tag 0x21 item for
-- each argument its places, tag 0x22 the result's". Assumes nothing.
use Rattle.std.specs.Prelude.{ℕ, suc, max, List, [], ◌∷◌, ◌++◌, ltb, eqb, length, take, Option, Some, None, Result, Ok, Err}
use Rattle.base_words.specs.Basics.{pick}
use Rattle.base_words.specs.Splice.{overlay}
use Rattle.sig_items.specs.declared.Fault.{Fault}
use Rattle.sig_items.specs.Refusals.{refusal_number}
use Rattle.sig_items.specs.Encode.{item}
use Rattle.plan_places.specs.declared.CallRules.{CallRules}
use Rattle.plan_places.specs.declared.Span.{Span}
use Rattle.plan_places.specs.Step.{rules_of}
use Rattle.plan_plans.specs.declared.Plan.{Plan}
use Rattle.plan_plans.specs.Plan.{plan_answer}
use Rattle.plan_plans.specs.Call.{call_of, outcome_for}
use Rattle.plan_stored_items.specs.Places.{argument_item, result_item}
use Rattle.plan_stored.specs.declared.StoreRefusal.{StoreRefusal}

-- ---- the bytes

unfoldable pub argument_items : CallRules → List Span → List ℕ
argument_items r [] = []
argument_items r (s ∷ ss) = argument_item r s ++ argument_items r ss

-- of a signature's bytes and its plan
unfoldable pub plan_bytes : List ℕ → Plan → List ℕ
plan_bytes s p = item 0x20 s ++ (argument_items (rules_of p.convention) (take p.count p.spans) ++ result_item p.result)

-- "what the writer would give for that signature today"
unfoldable pub stored_of : List ℕ → List ℕ
stored_of s = plan_bytes s (plan_answer (call_of s))

-- ---- writing; a call that is refused gives its refusal, 29 among them

-- "Too short a buffer for it is new refusal 33, tested last; else the plan's length is returned": a plan of n bytes, a buffer of `room`
abbrev pub store_by : Result ℕ Fault → ℕ → ℕ → Result ℕ StoreRefusal
store_by (Ok k) n room = pick (ltb room n) (Err StoreRefusal.TooShort) (Ok n)
store_by (Err f) n room = Err (StoreRefusal.Unread f)

unfoldable pub store_answer : List ℕ → ℕ → Result ℕ StoreRefusal
store_answer s room = store_by (outcome_for s) (length (stored_of s)) room

-- "and bytes past it stay"; a refused writing changes nothing
abbrev pub buffer_by : Result ℕ Fault → List ℕ → List ℕ → List ℕ
buffer_by (Ok k) t buffer = pick (ltb (length buffer) (length t)) buffer (overlay buffer t)
buffer_by (Err f) t buffer = buffer

unfoldable pub stored_buffer : List ℕ → List ℕ → List ℕ
stored_buffer s buffer = buffer_by (outcome_for s) (stored_of s) buffer

-- the length alone
abbrev pub length_by : Result ℕ Fault → ℕ → Result ℕ StoreRefusal
length_by (Ok k) n = Ok n
length_by (Err f) n = Err (StoreRefusal.Unread f)

unfoldable pub length_answer : List ℕ → Result ℕ StoreRefusal
length_answer s = length_by (outcome_for s) (length (stored_of s))

-- ---- checking

-- how many bytes two lists have in common from their first on: "the place of the first byte that differs, or the shorter length"
unfoldable pub alike : List ℕ → List ℕ → ℕ
alike [] ys = 0
alike (x ∷ xs) [] = 0
alike (x ∷ xs) (y ∷ ys) = pick (eqb x y) (suc (alike xs ys)) 0

-- n bytes in common, of lists of which the longer has m: all of both, which is None, or 27 and its place
abbrev pub compared_to : ℕ → ℕ → Result (Option ℕ) Fault
compared_to n m = pick (eqb n m) (Ok None) (Ok (Some n))

unfoldable pub compared : List ℕ → List ℕ → Result (Option ℕ) Fault
compared stored t = compared_to (alike stored t) (max (length stored) (length t))

-- "A fresh signature that is refused gives its own refusal"
abbrev pub check_by : Result ℕ Fault → List ℕ → List ℕ → Result (Option ℕ) Fault
check_by (Ok k) stored t = compared stored t
check_by (Err f) stored t = Err f

unfoldable pub check_answer : List ℕ → List ℕ → Result (Option ℕ) Fault
check_answer stored s = check_by (outcome_for s) stored (stored_of s)

-- ---- the papers' numbers, 0 for yes

abbrev pub store_number : Result ℕ StoreRefusal → ℕ
store_number (Ok n) = 0
store_number (Err (StoreRefusal.Unread f)) = refusal_number f.reason
store_number (Err StoreRefusal.TooShort) = 33

abbrev pub check_number : Result (Option ℕ) Fault → ℕ
check_number (Ok None) = 0
check_number (Err f) = refusal_number f.reason
check_number (Ok (Some place)) = 27
