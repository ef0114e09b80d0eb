-- The associated constants, and the other numbers as they stand, are the convention's. Assumes nothing.
use mathlib.Core.Path.{refl}
use Rattle.both_abi.proofs.Z.frame_rules.Goals as goal

pub returns : goal.returns
returns c = refl
