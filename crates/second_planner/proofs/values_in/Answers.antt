-- Each turn adds the next type's size, and after the last one none is left.
use Prim.Native.Nat.{◌≤◌}
use native.Mathlib.Omega.{arith}
use Rattle.sig_signatures.specs.Types.{values_of}
use Rattle.second_parameters.proofs.Turns.{few-left, small-here, next-here, gone}
use Rattle.second_planner.proofs.Turns.{adding-start, adding-more}
use Rattle.second_planner.proofs.values_in.Goals as goal

pub loop-a-init : goal.loop-a-init
loop-a-init c = adding-start _ _

pub overflow_add-values : goal.overflow_add-values
overflow_add-values c =
    let few = few-left _ _ c.requires c.loop-a-test.true in
    let small : c.size_of-values.result ≤ 256 = rw c.size_of-values.ensures (small-here _ _ _ c.requires c.loop-a-test.true) in
    omega (arith, c.loop-a.invariant.small)

pub loop-a-preserved : goal.loop-a-preserved
loop-a-preserved c = rw c.size_of-values.ensures (adding-more _ _ _ _ _ (small-here _ _ _ c.requires c.loop-a-test.true) (next-here _ _ _ c.requires c.loop-a-test.true) c.loop-a.invariant)

pub returns : goal.returns
unfolding values_of
returns c =
    let z = gone _ c.loop-a.a-index c.requires c.loop-a-test.false in
    let e = rw z at c.loop-a.invariant.total in
    omega (arith, e)
