-- The next cursor of what the class takes.
use Rattle.plan_places.specs.Step.{next_of}
use mathlib.Core.Path.{sym, ◌∙◌}
use Rattle.plan_z_step.proofs.advance.Goals as goal

pub returns : goal.returns
unfolding next_of
returns c = c.next_of.ensures ∙ sym (simp c.class_of.ensures at c.taken_of.ensures.1)
