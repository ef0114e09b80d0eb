-- By cases on the outcome.
use Rattle.std.proofs.Common.{Err}
use Rattle.std.proofs.lemmas.Result.{err_from_is_err_and}
use mathlib.Core.Path.{ap, ◌∙◌}
use Rattle.plan_stored.proofs.Outcomes.{writable, short, length-refused, length-accepted}
use Rattle.plan_stored.proofs.stored_length.Goals as goal

pub returns-in_err-p : goal.returns-in_err-p
returns-in_err-p c =
    let (y, is, same) = err_from_is_err_and c.from_residual.result c.from_residual.ensures.1 in
    is ∙ ap Err same ∙ length-refused c.args.s.now _ c.plan_of-p.ensures _ c.in_err-p.was

pub plan_length-n-requires : goal.plan_length-n-requires
plan_length-n-requires c = (short c.args.s.now _ c.plan_of-p.ensures _ c.in_ok-p.was, writable c.args.s.now _ c.plan_of-p.ensures)

pub returns : goal.returns
returns c = length-accepted c.args.s.now _ c.plan_of-p.ensures _ c.in_ok-p.was _ c.plan_length-n.ensures
