-- By cases on the convention.
use mathlib.Core.Path.{◌∙◌}
use Rattle.second_planner.proofs.accepted_plan.Goals as goal

pub returns-in-Ppc64 : goal.returns-in-Ppc64
returns-in-Ppc64 c = c.power_plan.ensures ∙ rw c.in-Ppc64.is

pub returns-in-Z : goal.returns-in-Z
returns-in-Z c = c.z_plan.ensures ∙ rw c.in-Z.is

pub returns-in-Aix : goal.returns-in-Aix
returns-in-Aix c = c.power_plan-in-Aix.ensures ∙ rw c.in-Aix.is

pub returns-in-Ppc64b : goal.returns-in-Ppc64b
returns-in-Ppc64b c = c.power_plan-in-Ppc64b.ensures ∙ rw c.in-Ppc64b.is
