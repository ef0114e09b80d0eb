-- Each part is the definition's.
use mathlib.Core.Path.{◌∙◌}
use Rattle.second_slot_scan.specs.Slots.{slot_of}
use Rattle.second_slot_scan.proofs.slot_for.Goals as goal

pub returns : goal.returns
unfolding slot_of
returns c = c.slot_by.ensures ∙ rw (c.double_or_float.ensures, c.copy_at-k.ensures, c.is_copied.ensures)
