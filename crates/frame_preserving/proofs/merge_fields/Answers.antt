-- The definition's own arithmetic, in 32 bits. Assumes nothing.
use Rattle.frame_rules.specs.Frames.{merge_fields}
use mathlib.Core.Path.{refl}
use Rattle.frame_preserving.proofs.merge_fields.Goals as goal

pub returns : goal.returns
unfolding merge_fields
returns c = refl
