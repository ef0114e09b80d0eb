-- By the convention and the float.
use mathlib.Core.Path.{◌∙◌}
use Rattle.call_slots.proofs.float_answer.Goals as goal

pub returns-in-Power-Single : goal.returns-in-Power-Single
returns-in-Power-Single c = c.narrowed_answer.ensures ∙ rw (c.in-Power-Single.is-0, c.in-Power-Single.is-1)
