-- By cases on the outcome.
use Rattle.std.proofs.Common.{Err}
use Rattle.std.proofs.lemmas.Result.{err_from_is_err_and}
use mathlib.Core.Path.{ap, ◌∙◌}
use Rattle.plan_stored.proofs.Outcomes.{writable, short, check-refused, check-accepted}
use Rattle.plan_stored.proofs.check_plan.Goals as goal

pub returns-in_err-p : goal.returns-in_err-p
returns-in_err-p c =
    let (y, is, same) = err_from_is_err_and c.from_residual.result c.from_residual.ensures.1 in
    is ∙ ap Err same ∙ check-refused c.args.s.now _ c.plan_of-p.ensures _ c.in_err-p.was _

pub compare_plan-requires : goal.compare_plan-requires
compare_plan-requires c = (short c.args.s.now _ c.plan_of-p.ensures _ c.in_ok-p.was, writable c.args.s.now _ c.plan_of-p.ensures)

pub returns : goal.returns
returns c = check-accepted c.args.s.now _ c.plan_of-p.ensures _ c.in_ok-p.was _ _ c.compare_plan.ensures
