-- By the convention.
use mathlib.Core.Path.{◌∙◌}
use Rattle.call_slots.specs.Forms.{starts_at_head}
use Rattle.call_slots.proofs.starts_at_head.Goals as goal

pub returns-in-Power : goal.returns-in-Power
unfolding starts_at_head
returns-in-Power c = c.head_first.ensures ∙ rw c.in-Power.is

pub returns-in-Z : goal.returns-in-Z
unfolding starts_at_head
returns-in-Z c = rw c.in-Z.is
