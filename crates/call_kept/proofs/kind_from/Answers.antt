-- Each number by the equations of the match.
use native.Mathlib.Omega.{arith}
use borrow.Author.Tests.{ne_eqb}
use Rattle.std.proofs.Common.{◌≢◌}
use Rattle.call_kept.specs.Helpers.{kind_from}
use Rattle.call_kept.proofs.kind_from.Goals as goal

pub returns-in-0 : goal.returns-in-0
unfolding kind_from
returns-in-0 c = rw c.in-0.is

pub returns-in-1 : goal.returns-in-1
unfolding kind_from
returns-in-1 c = rw c.in-1.is

pub returns-in-2 : goal.returns-in-2
unfolding kind_from
returns-in-2 c = rw c.in-2.is

pub returns-in-3 : goal.returns-in-3
unfolding kind_from
returns-in-3 c = rw c.in-3.is

pub returns-in-4 : goal.returns-in-4
unfolding kind_from
returns-in-4 c = rw c.in-4.is

pub returns-in-5 : goal.returns-in-5
unfolding kind_from
returns-in-5 c = rw c.in-5.is

pub returns-in-6 : goal.returns-in-6
unfolding kind_from
returns-in-6 c = rw c.in-6.is

pub returns-in-7 : goal.returns-in-7
unfolding kind_from
returns-in-7 c = rw c.in-7.is

pub returns-in_default : goal.returns-in_default
unfolding kind_from
returns-in_default c =
    let n0 : c.args.x ≢ 0 = omega arith in
    let n1 : c.args.x ≢ 1 = omega arith in
    let n2 : c.args.x ≢ 2 = omega arith in
    let n3 : c.args.x ≢ 3 = omega arith in
    let n4 : c.args.x ≢ 4 = omega arith in
    let n5 : c.args.x ≢ 5 = omega arith in
    let n6 : c.args.x ≢ 6 = omega arith in
    let n7 : c.args.x ≢ 7 = omega arith in
    simp (ne_eqb _ _ n0, ne_eqb _ _ n1, ne_eqb _ _ n2, ne_eqb _ _ n3, ne_eqb _ _ n4, ne_eqb _ _ n5, ne_eqb _ _ n6, ne_eqb _ _ n7)
