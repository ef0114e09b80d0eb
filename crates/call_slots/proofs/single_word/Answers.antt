-- By the convention: widened, or moved to the upper half.
use mathlib.Core.Path.{◌∙◌}
use Rattle.call_slots.proofs.single_word.Goals as goal

pub returns-in-Power : goal.returns-in-Power
returns-in-Power c = c.widen.ensures ∙ rw c.in-Power.is

pub returns-in-Z : goal.returns-in-Z
returns-in-Z c = rw c.in-Z.is
