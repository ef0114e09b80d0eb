-- The definition's own numbers.
use Rattle.plan_places.specs.Step.{area_of}
use Rattle.plan_placing.proofs.area_of.Goals as goal

pub returns : goal.returns
unfolding area_of
returns c = rw c.least_area_of.ensures at c.max.ensures
