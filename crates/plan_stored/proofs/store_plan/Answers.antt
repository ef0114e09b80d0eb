-- By cases on the outcome.
use Rattle.std.proofs.Common.{Err}
use Rattle.std.proofs.lemmas.Result.{err_from_is_err_and}
use mathlib.Core.Path.{ap, ◌∙◌}
use native.Mathlib.Omega.{arith}
use Rattle.plan_stored.proofs.Outcomes.{writable, short, store-refused, store-short, store-accepted}
use Rattle.plan_stored.proofs.store_plan.Goals as goal

pub returns-in_err-p : goal.returns-in_err-p
returns-in_err-p c =
    let (y, is, same) = err_from_is_err_and c.from_residual.result c.from_residual.ensures.1 in
    let refused = store-refused c.args.s.now _ c.plan_of-p.ensures _ c.in_err-p.was c.args.stored.now in
    (is ∙ ap Err same ∙ refused.0, refused.1)

pub plan_length-n-requires : goal.plan_length-n-requires
plan_length-n-requires c = (short c.args.s.now _ c.plan_of-p.ensures _ c.in_ok-p.was, writable c.args.s.now _ c.plan_of-p.ensures)

pub returns-then-stored-n : goal.returns-then-stored-n
returns-then-stored-n c = store-short c.args.s.now _ c.plan_of-p.ensures _ c.in_ok-p.was _ _ c.plan_length-n.ensures (omega arith)

pub put_plan-requires : goal.put_plan-requires
put_plan-requires c = (short c.args.s.now _ c.plan_of-p.ensures _ c.in_ok-p.was, writable c.args.s.now _ c.plan_of-p.ensures)

pub returns : goal.returns
returns c = store-accepted c.args.s.now _ c.plan_of-p.ensures _ c.in_ok-p.was _ _ _ _ c.plan_length-n.ensures (omega arith) c.put_plan.ensures
