-- 29 where there is an unclear argument.
use borrow.Author.Rules.{rules}
use native.Mathlib.Omega.{arith}
use mathlib.Core.Path.{ap, ◌∙◌}
use Rattle.sig_items.specs.declared.Fault.{Fault}
use Rattle.plan_plans.specs.Plan.{refused_plan, measure_of}
use Rattle.plan_plans.specs.Helpers.{measured_by}
use Rattle.plan_plans.proofs.Calls.{unclear-measured}
use Rattle.plan_measuring.proofs.judged.Goals as goal

pub returns : goal.returns
returns c =
    c.no_measure.ensures
    ∙ ap (λ (f : Fault). measure_of (refused_plan f)) c.unclear_fault.ensures
    ∙ unclear-measured _ _ _ (omega (arith, c.if-a-eq0.false))

pub returns-then-a-eq0 : goal.returns-then-a-eq0
unfolding measured_by
returns-then-a-eq0 c = search rules
