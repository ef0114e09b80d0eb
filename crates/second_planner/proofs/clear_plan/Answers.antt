-- 29 at the first parameter that straddles; where there is none, the plan.
use mathlib.Core.Path.{◌≡◌, sym, ap, ◌∙◌}
use Prim.Native.Nat.{suc, ◌-◌}
use native.Mathlib.Omega.{arith}
use Rattle.sig_signatures.proofs.Types.{answer-plannable}
use Rattle.second_planner.specs.Answer.{no_plan}
use Rattle.second_planner.proofs.Answers.{answer-clear, answer-straddling}
use Rattle.second_planner.proofs.clear_plan.Goals as goal

pub straddling_in-straddling-requires : goal.straddling_in-straddling-requires
straddling_in-straddling-requires c = rw c.requires.0 (answer-plannable _)

pub accepted_plan-requires : goal.accepted_plan-requires
accepted_plan-requires c = rw c.requires.0 (answer-plannable _)

pub returns-then-straddling-eq0 : goal.returns-then-straddling-eq0
returns-then-straddling-eq0 c = c.accepted_plan.ensures ∙ answer-clear _ _ _ c.requires.0 c.requires.1 (sym c.straddling_in-straddling.ensures ∙ c.if-straddling-eq0.true)

pub returns-else-straddling-eq0 : goal.returns-else-straddling-eq0
returns-else-straddling-eq0 c =
    let some : c.straddling_in-straddling.result ≡ suc (c.straddling_in-straddling.result - 1) = omega (arith, c.if-straddling-eq0.false) in
    c.no_plan.ensures
    ∙ ap no_plan c.unclear_fault.ensures
    ∙ answer-straddling _ _ _ _ c.requires.0 c.requires.1 (sym c.straddling_in-straddling.ensures ∙ some)
