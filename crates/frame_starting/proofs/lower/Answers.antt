-- One number lowered first changes nothing of the whole, and at the end all are low. Assumes nothing.
use Rattle.std.proofs.Common.{◌∙◌, sym, arith}
use Rattle.frame_rules.proofs.Halves.{lowered-again, lowered-more, lowered-end}
use Rattle.frame_starting.proofs.lower.Goals as goal

pub loop-x-preserved : goal.loop-x-preserved
loop-x-preserved c =
    let xs = c.loop-x.x-items in
    rw c.low.ensures (
      lowered-again c.args.m 32 c.loop-x.x-index xs (omega arith) ∙ c.loop-x.invariant.0,
      lowered-more c.args.m c.loop-x.x-index xs c.loop-x.invariant.1,
    )

pub returns : goal.returns
returns c =
    lowered-end c.args.m 32 c.loop-x.x-items c.loop-x-test.array_long (λ k q. c.loop-x.invariant.1 k (omega arith)) ∙ c.loop-x.invariant.0
