-- By cases on the mark.
use Rattle.second_slot_scan.specs.Slots.{initial}
use Rattle.second_slot_scan.proofs.start_of.Goals as goal

pub returns-then-hidden : goal.returns-then-hidden
unfolding initial
returns-then-hidden c = rw c.if-hidden.true

pub returns-else-hidden : goal.returns-else-hidden
unfolding initial
returns-else-hidden c = rw c.if-hidden.false
