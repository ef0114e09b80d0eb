-- A power of 16, within its bounds. Assumes nothing.
use Rattle.std.proofs.Common.{arith, refl}
use Rattle.frame_writing.proofs.Fields.{unit-bounds}
use Rattle.frame_writing.proofs.unit.Goals as goal

pub pow-requires : goal.pow-requires
pow-requires c = omega (arith, unit-bounds c.args.n)

pub returns : goal.returns
returns c = let b = unit-bounds c.args.n in rw c.pow.ensures (refl, b.0, b.1)
