-- The span and the next cursor of what the class takes.
use Rattle.plan_places.specs.Step.{placed, span_of, next_of}
use Rattle.plan_z_step.proofs.step.Goals as goal

pub returns : goal.returns
unfolding placed span_of next_of
returns c = rw (c.place.ensures, ← c.taken_of.ensures.0, ← c.taken_of.ensures.1, c.class_of.ensures)
