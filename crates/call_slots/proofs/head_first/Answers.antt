-- By cases on the type.
use mathlib.Core.Path.{sym, ap, ◌∙◌}
use Rattle.call_slots.specs.Forms.{head_first}
use Rattle.call_slots.proofs.head_first.Goals as goal

pub returns-in-Struct : goal.returns-in-Struct
returns-in-Struct c = c.struct_at_head.ensures ∙ sym (ap (head_first _) c.in-Struct.is)
