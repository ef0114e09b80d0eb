-- By the family of conventions.
use Rattle.plan_stored_items.specs.Places.{bytes_in_area}
use Rattle.plan_stored_items.proofs.bytes_in_area.Goals as goal

pub returns-in-Power : goal.returns-in-Power
unfolding bytes_in_area
returns-in-Power c = rw c.in-Power.is

pub returns-in-Z : goal.returns-in-Z
unfolding bytes_in_area
returns-in-Z c = rw c.in-Z.is
