-- By the family of conventions. Assumes nothing.
use Rattle.call_walker.specs.Walker.{cursor_at}
use Rattle.call_walking.proofs.local_cursor.Goals as goal

pub returns-in-Power : goal.returns-in-Power
unfolding cursor_at
returns-in-Power c = rw (c.in-Power.is, c.min.ensures)

pub returns-in-Z : goal.returns-in-Z
unfolding cursor_at
returns-in-Z c = rw c.in-Z.is
