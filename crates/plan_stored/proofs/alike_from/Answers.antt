use mathlib.Core.Path.{◌≡◌, sym, ◌∙◌}
use Prim.Native.Nat.{◌+◌}
use lib.ListN.{length}
use native.Mathlib.Omega.{arith}
use Rattle.plan_stored.proofs.Alike.{even-start, even-more, even-differs, even-short, even-long}
use Rattle.plan_stored.proofs.alike_from.Goals as goal
use Rattle.plan_stored.proofs.alike_from.Goals.{then-at-i-via-then-at-i, then-at-i-via-else-at-i+then-stored-at}

pub loop-i-init : goal.loop-i-init
loop-i-init c = even-start _ _ _ c.requires

pub returns-then-at-i : goal.returns-then-at-i
returns-then-at-i c = elim c.then-at-i.branch [
  | then-at-i-via-then-at-i w ↦ even-short _ _ c.args.at c.loop-i.i (omega (arith, w.if-at-i.true)) c.loop-i.invariant
  | then-at-i-via-else-at-i+then-stored-at w ↦
      even-differs _ _ c.args.at c.loop-i.i (omega (arith, w.if-at-i.false, c.loop-i.invariant.within)) c.loop-i-test.true w.if-stored-at.true c.loop-i.invariant
]

pub loop-i-preserved : goal.loop-i-preserved
loop-i-preserved c =
    even-more _ _ c.args.at c.loop-i.i (omega (arith, c.if-at-i.false, c.loop-i.invariant.within)) c.loop-i-test.true c.if-stored-at.false c.loop-i.invariant

pub returns : goal.returns
returns c =
    let end : c.args.at + c.loop-i.i ≡ c.args.at + length c.args.part.now = omega (arith, c.loop-i.auto.i-end, c.loop-i-test.false) in
    sym end ∙ even-long _ _ c.args.at c.loop-i.i c.loop-i-test.false c.loop-i.invariant
