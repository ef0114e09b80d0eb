-- Every plan can be printed and stored. Assumes nothing.
use Rattle.sig_types.specs.declared.ValueType.{ValueType}
use Rattle.std.proofs.Common.{Some, None, Option}
use mathlib.Core.List.{List}
use Prim.Native.Nat.{ℕ}
use Rattle.base_conventions.specs.declared.Convention.{Convention}
use Rattle.sig_types.specs.Sizes.{size_of}
use Rattle.sig_items.specs.Reading.{Reading, got, no}
use Rattle.sig_signatures.specs.Signature.{Signature}
use Rattle.sig_signatures.specs.Answer.{result_type}
use Rattle.plan_places.specs.Step.{rules_of}
use Rattle.plan_places.specs.Helpers.{ResultNumbered}
use Rattle.plan_places.proofs.Registers.{result-numbered}
use Rattle.plan_plans.specs.Plan.{result_places_in, plan_in, plan_answer}
use Rattle.plan_plans.specs.Call.{call_of}
use Rattle.plan_plans.proofs.Answers.{answer-table}
use Rattle.plan_plans.proofs.Calls.{call-few}
use Rattle.plan_plans.proofs.Theorems.{within}
use Rattle.plan_plans.specs.Helpers.{Printable}

result-of : (c : Convention) (r : Option ValueType) → ResultNumbered (result_places_in c r)
result-of c None = tt
result-of c (Some t) = result-numbered (rules_of c) t (size_of c t)

result-in : (x : Reading Signature) → ResultNumbered (plan_answer x).result
unfolding plan_answer plan_in
result-in (got g next n) = result-of g.convention (result_type g.convention g.result)
result-in (no f) = tt

pub answer-printable : (s : List ℕ) → Printable (plan_answer (call_of s))
answer-printable s = record {
  few = call-few s;
  room = answer-table (call_of s);
  spans = λ i. ((within (call_of s)).arguments i).numbered;
  result = result-in (call_of s);
}
