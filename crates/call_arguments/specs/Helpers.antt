-- For proofs and helpers alone: no claim cites this file.
-- What the readers of a call's arguments ask and answer on the way. Assumes nothing.
use Rattle.sig_items.specs.declared.Fault.{Fault}
use Rattle.sig_types.specs.declared.ValueType.{ValueType}
use Rattle.std.specs.Prelude.{ℕ, zero, suc, ◌+◌, ◌*◌, ◌≤◌, ◌≡◌, Bool, true, false, List, ltb, length, Ok, Err, Result, Option}
use Rattle.base_conventions.specs.declared.Convention.{Convention}
use Rattle.sig_types.specs.Trees.{Trees}
use Rattle.sig_items.specs.Reading.{Reading, got, no}
use Rattle.sig_signatures.specs.Signature.{Signature}
use Rattle.sig_signatures.specs.Read.{head_of}
use Rattle.sig_signatures.specs.Answer.{head_answer, head_found}
use Rattle.sig_signatures.specs.Types.{types_of}
use Rattle.sig_reader.specs.Argument.{unclear_fault}
use Rattle.plan_places.specs.Step.{rules_of, with_ellipsis}
use Rattle.plan_plans.specs.Plan.{spans_of, start_in}
use Rattle.call_slots.specs.Placements.{placements}
use Rattle.call_slots.specs.Arguments.{arguments_of}
use Rattle.call_kept.specs.Helpers.{row_length, kept_all}

-- what stands before the arguments is read as this
abbrev pub HeadIs : List ℕ → Convention → Option ValueType → Bool → ℕ → ℕ → ℕ → Type 0
HeadIs s c r v at e n = head_answer (head_of s) ≡ head_found c r v at e n

-- and nothing follows it
abbrev pub NoneLeft : List ℕ → Convention → Option ValueType → ℕ → ℕ → Type 0
NoneLeft s c r e n = (v : Bool) × HeadIs s c r v e e n

-- n words hold the arguments that are read, in a signature of `all` bytes, with an ellipsis or without; of a refused reading nothing is said
abbrev pub KeptWith : Convention → Bool → Option ValueType → ℕ → Reading Trees → List ℕ → ℕ → Type 0
KeptWith c v r all (got ts next m) l n =
    ltb next all ≡ false → (row_length * n ≤ length l) × (kept_all c l n ≡ placements c (types_of c ts) (spans_of c (with_ellipsis v (rules_of c)) (start_in c r) (types_of c ts)))
KeptWith c v r all (no f) l n = Unit {0}

-- the words l hold the n arguments of a signature's bytes
pub record KeptOf (s : List ℕ) (c : Convention) (l : List ℕ) (n : ℕ) : Type 0 where
  pub room : row_length * n ≤ length l
  pub same : kept_all c l n ≡ arguments_of s

-- where the outcome accepts
abbrev pub KeptWhere : Result ℕ Fault → List ℕ → Convention → List ℕ → ℕ → Type 0
KeptWhere (Ok k) s c l n = KeptOf s c l n
KeptWhere (Err f) s c l n = Unit {0}

-- the outcome of a call whose reading is x with the outcome o, where the first unclear argument is number u, counted from 1
unfoldable pub outcome_by : ℕ → Result ℕ Fault → Reading Signature → Result ℕ Fault
outcome_by zero o x = o
outcome_by (suc i) o x = Err (unclear_fault i x)
