-- Each number by the equations of the match.
use native.Mathlib.Omega.{arith}
use borrow.Author.Tests.{ne_eqb}
use Rattle.std.proofs.Common.{◌≢◌}
use Rattle.call_kept.specs.Helpers.{equivalent_from}
use Rattle.call_kept.proofs.equivalent_from.Goals as goal

pub returns-in-0 : goal.returns-in-0
unfolding equivalent_from
returns-in-0 c = rw c.in-0.is

pub returns-in-1 : goal.returns-in-1
unfolding equivalent_from
returns-in-1 c = rw c.in-1.is

pub returns-in_default : goal.returns-in_default
unfolding equivalent_from
returns-in_default c =
    let n0 : c.args.x ≢ 0 = omega arith in
    let n1 : c.args.x ≢ 1 = omega arith in
    simp (ne_eqb _ _ n0, ne_eqb _ _ n1)
