-- Where no argument is unclear, the reading's own plan; else 29 at the first that is.
use mathlib.Core.Path.{◌≡◌, sym, ap, ◌∙◌}
use native.Mathlib.Omega.{arith}
use Prim.Native.Nat.{suc, ◌-◌}
use Rattle.plan_plans.specs.Plan.{refused_plan}
use Rattle.sig_signatures.proofs.Types.{answer-plannable}
use Rattle.plan_plans.proofs.Calls.{clear-plan, unclear-plan}
use Rattle.plan_planning.proofs.plan_call.Goals as goal

pub first_unclear-unclear-requires : goal.first_unclear-unclear-requires
first_unclear-unclear-requires c = rw c.requires (answer-plannable _)

pub plan_signature-requires : goal.plan_signature-requires
plan_signature-requires c = rw c.requires (answer-plannable _)

pub returns-then-unclear-eq0 : goal.returns-then-unclear-eq0
returns-then-unclear-eq0 c = c.plan_signature.ensures ∙ clear-plan _ _ c.requires (sym c.first_unclear-unclear.ensures ∙ c.if-unclear-eq0.true)

pub overflow_sub-unclear : goal.overflow_sub-unclear
overflow_sub-unclear c = omega arith

pub returns : goal.returns
returns c =
    let some : c.first_unclear-unclear.result ≡ suc (c.first_unclear-unclear.result - 1) = omega (arith, c.if-unclear-eq0.false) in
    c.blank.ensures
    ∙ ap refused_plan c.unclear_fault-fault.ensures
    ∙ unclear-plan _ _ _ c.requires (sym c.first_unclear-unclear.ensures ∙ some)
