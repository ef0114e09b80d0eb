use Prim.Native.Nat.{◌-◌}
use native.Mathlib.Omega.{arith}
use Rattle.call_read.proofs.Agree.{comparing-start, comparing-more, comparing-not, comparing-end}
use Rattle.call_read.proofs.same_bytes.Goals as goal

pub loop-i-init : goal.loop-i-init
loop-i-init c = comparing-start _ _ _

pub bounds-a-i : goal.bounds-a-i
bounds-a-i c = omega (arith, c.loop-i-test.true, c.requires.0)

pub bounds-b-i : goal.bounds-b-i
bounds-b-i c = omega (arith, c.loop-i-test.true, c.requires.1)

pub returns-then-a-i : goal.returns-then-a-i
returns-then-a-i c = comparing-not _ _ _ c.requires.0 c.requires.1 c.loop-i.i (omega (arith, c.loop-i-test.true)) c.if-a-i.true c.loop-i.invariant

pub loop-i-preserved : goal.loop-i-preserved
loop-i-preserved c = comparing-more _ _ _ c.requires.0 c.requires.1 c.loop-i.i (omega (arith, c.loop-i-test.true)) c.if-a-i.false c.loop-i.invariant

pub returns : goal.returns
returns c = comparing-end _ _ _ c.requires.0 c.requires.1 c.loop-i.i (omega (arith, c.loop-i-test.false)) c.loop-i.invariant
