-- The second planner's terms lose nothing: a span and its parameter hold the same spots. Assumes nothing.
use mathlib.Core.Path.{◌≡◌, refl, sym, ap, subst, ◌∙◌}
use mathlib.Core.List.{List}
use Prim.Native.Nat.{ℕ, zero, suc, ◌+◌, ◌≤◌, ◌<◌}
use native.Mathlib.Omega.{arith}
use Rattle.sig_signatures.specs.Read.{signature_of}
use Rattle.plan_places.specs.declared.Span.{Span}
use Rattle.plan_places.specs.Spots.{Spot, general, floating, area, copies, InBytes, Owns}
use Rattle.plan_plans.specs.declared.Plan.{Plan}
use Rattle.plan_plans.specs.Disjoint.{span_at}
use Rattle.plan_plans.specs.Plan.{plan_answer}
use Rattle.plan_plans.specs.Call.{call_of}
use Rattle.plan_plans.proofs.Theorems.{disjoint}
use Rattle.second_parameters.specs.declared.Parameter.{Parameter}
use Rattle.second_planner.specs.declared.SecondPlan.{SecondPlan}
use Rattle.second_parameters.specs.Values.{run_of}
use Rattle.second_planner.specs.Answer.{second_answer}
use Rattle.second_agreement.specs.Agreement.{parameter_of, parameter_at, PlansAgree, InRun, ParameterOwns, SameSpots, PlannersShare, SecondDisjoint}
use Rattle.second_agreement.proofs.Theorem.{planners-agree}

in-run : (a n x : ℕ) → InRun (run_of a n) x → (a ≤ x) × (x < a + n)
unfolding run_of
in-run a zero x h = absurd (omega arith)
in-run a (suc n) x h = h

run_in : (a n x : ℕ) → a ≤ x → x < a + n → InRun (run_of a n) x
unfolding run_of
run_in a zero x h l = absurd (omega arith)
run_in a (suc n) x h l = (h, l)

pub holds-owns : (s : Span) (x : Spot) → ParameterOwns (parameter_of s) x → Owns s x
unfolding parameter_of
holds-owns s (general n) h = in-run s.general.first s.general.count n h
holds-owns s (floating n) h = in-run s.floating.first s.floating.count n h
holds-owns s (area n) h = in-run s.home.start s.home.length n h
holds-owns s (copies n) h = in-run s.copy.start s.copy.length n h

pub owns-holds : (s : Span) (x : Spot) → Owns s x → ParameterOwns (parameter_of s) x
unfolding parameter_of
owns-holds s (general n) h = run_in s.general.first s.general.count n h.0 h.1
owns-holds s (floating n) h = run_in s.floating.first s.floating.count n h.0 h.1
owns-holds s (area n) h = run_in s.home.start s.home.length n h.0 h.1
owns-holds s (copies n) h = run_in s.copy.start s.copy.length n h.0 h.1

memory-in : (s : Span) (n : ℕ) → InRun (parameter_of s).memory n → InBytes s.memory n
unfolding parameter_of
memory-in s n h = in-run s.memory.start s.memory.length n h

in_memory : (s : Span) (n : ℕ) → InBytes s.memory n → InRun (parameter_of s).memory n
unfolding parameter_of
in_memory s n h = run_in s.memory.start s.memory.length n h.0 h.1

indirect : (s : Span) → (parameter_of s).reference ≡ s.indirect
unfolding parameter_of
indirect s = refl

agree-spots : (p : Plan) (q : SecondPlan) → PlansAgree p q → SameSpots p q
agree-spots p q a = record {
  only = λ i x h. holds-owns (span_at p i) x (subst (λ (y : Parameter). ParameterOwns y x) (a.places i) h);
  all = λ i x h. subst (λ (y : Parameter). ParameterOwns y x) (sym (a.places i)) (owns-holds (span_at p i) x h);
  stored = λ i n h. memory-in (span_at p i) n (subst (λ (y : Parameter). InRun y.memory n) (a.places i) h);
  storing = λ i n h. subst (λ (y : Parameter). InRun y.memory n) (sym (a.places i)) (in_memory (span_at p i) n h);
  reference = λ i. ap (λ (y : Parameter). y.reference) (a.places i) ∙ indirect (span_at p i);
}

-- the two planners, on any bytes at all
pub same-spots : PlannersShare
same-spots s = agree-spots (plan_answer (call_of s)) (second_answer (signature_of s)) (planners-agree s)

pub second-disjoint : SecondDisjoint
second-disjoint s i j x d h k = let a = same-spots s in (disjoint (call_of s)).apart i j x d (a.only i x h) (a.only j x k)
