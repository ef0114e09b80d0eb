-- By cases on the family.
use Rattle.plan_places.specs.Step.{unclear_for}
use Rattle.plan_placing.proofs.unclear_for.Goals as goal

pub returns-in-Power : goal.returns-in-Power
unfolding unclear_for
returns-in-Power c = rw c.in-Power.is c.is_unclear.ensures

pub returns-in-Z : goal.returns-in-Z
unfolding unclear_for
returns-in-Z c = rw c.in-Z.is
