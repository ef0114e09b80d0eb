-- The span and the next cursor of what the argument takes.
use Rattle.plan_places.specs.Step.{placed, span_of, next_of}
use Rattle.plan_power_step.proofs.step.Goals as goal

pub returns : goal.returns
unfolding placed span_of next_of
returns c = simp (c.taken_of.ensures.0, c.taken_of.ensures.1) at c.place.ensures
