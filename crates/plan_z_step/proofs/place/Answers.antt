-- Each part is the definition's, at the same numbers.
use Rattle.plan_z_step.proofs.place.Goals as goal

pub returns : goal.returns
returns c = rw (c.next_of.ensures, c.byte_range.ensures, c.register_range-2.ensures, c.register_range.ensures, c.byte_range-memory.ensures, c.stored.ensures)
