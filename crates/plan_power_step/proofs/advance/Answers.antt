-- The next cursor of what the argument takes without an ellipsis, which moves none.
use mathlib.Core.Path.{◌∙◌}
use Rattle.plan_places.proofs.Marked.{next-plain}
use Rattle.plan_power_step.proofs.advance.Goals as goal

pub returns : goal.returns
returns c = (simp (c.taken_of.ensures.0, c.taken_of.ensures.1) at c.next_of.ensures) ∙ next-plain _ _ _ _
