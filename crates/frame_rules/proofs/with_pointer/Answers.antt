-- One register is stored. Assumes nothing.
use Rattle.frame_rules.specs.Frames.{with_pointer}
use mathlib.Core.Path.{refl}
use Rattle.frame_rules.proofs.with_pointer.Goals as goal

pub returns : goal.returns
unfolding with_pointer
returns c = refl
