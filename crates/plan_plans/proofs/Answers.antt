-- The plan of the reader's answer is that of what it reads. Assumes nothing.
use Rattle.std.proofs.Common.{Err}
use mathlib.Core.Path.{◌≡◌, refl, ap}
use mathlib.Core.List.{List}
use Prim.Native.Nat.{ℕ, ◌≤◌}
use native.Mathlib.Omega.{arith}
use lib.ListN.{length, length-append}
use Rattle.sig_types.specs.Trees.{count_of}
use Rattle.sig_items.specs.declared.Fault.{Fault}
use Rattle.sig_items.specs.Reading.{Reading, got, no}
use Rattle.sig_signatures.specs.Signature.{Signature}
use Rattle.sig_signatures.specs.Limits.{max_arguments}
use Rattle.sig_signatures.specs.Read.{signature_of}
use Rattle.sig_signatures.specs.Answer.{result_type, signature_answer}
use Rattle.sig_signatures.proofs.Theorems.{accepted}
use Rattle.sig_signatures.proofs.Types.{table-types, length-of-types}
use Rattle.sig_signatures.specs.Types.{types_of}
use Rattle.plan_places.specs.Step.{rules_of, with_ellipsis}
use Rattle.plan_plans.specs.Plan.{table_of, start_in, plan_in, plan_answer}
use Rattle.plan_plans.specs.Helpers.{planned}
use Rattle.plan_plans.proofs.Fold.{length-spans}

-- ---- the answer

pub planned-answer : (x : Reading Signature) → planned (signature_answer x) ≡ plan_answer x
unfolding planned plan_answer
planned-answer (got g next n) = ap (plan_in n g.convention g.ellipsis (result_type g.convention g.result)) (table-types g.convention g.arguments)
planned-answer (no f) = refl

-- ---- its counts

few : (g : Signature) (next n : ℕ) → count_of g.arguments ≤ max_arguments → (plan_answer (got g next n)).count ≤ max_arguments
unfolding plan_answer plan_in
few g next n h = omega (arith, length-of-types g.convention g.arguments)

none-few : (f : Fault) → (plan_answer (no f)).count ≤ max_arguments
unfolding plan_answer
none-few f = omega arith

-- no plan has more arguments than a signature may
pub answer-few : (s : List ℕ) → (plan_answer (signature_of s)).count ≤ max_arguments
answer-few s = go (signature_of s) refl
  where
    go : (x : Reading Signature) → signature_of s ≡ x → (plan_answer x).count ≤ max_arguments
    go (got g next n) e = few g next n (accepted s g next n e).within.few
    go (no f) e = none-few f

-- its table has a span for each
pub answer-table : (x : Reading Signature) → (plan_answer x).count ≤ length (plan_answer x).spans
unfolding plan_answer plan_in table_of
answer-table (got g next n) =
    let c = g.convention in
    let k = start_in c (result_type c g.result) in
    simp length-append (omega (arith, length-spans c (with_ellipsis g.ellipsis (rules_of c)) k (types_of c g.arguments)))
answer-table (no f) = omega arith

-- ---- the outcome

-- a plan has the reading's
pub outcome-read : (x : Reading Signature) → (plan_answer x).outcome ≡ (signature_answer x).outcome
unfolding plan_answer plan_in
outcome-read (got g next n) = refl
outcome-read (no f) = refl

pub outcome-refused : (x : Reading Signature) (f : Fault) → x ≡ no f → Err f ≡ (signature_answer x).outcome
outcome-refused x f e = rw e
