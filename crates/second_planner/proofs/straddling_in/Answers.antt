-- By cases on the convention.
use mathlib.Core.Logic.{⊎_elim}
use mathlib.Core.Path.{◌∙◌}
use Rattle.second_planner.proofs.straddling_in.Goals as goal

pub returns-in-Ppc64 : goal.returns-in-Ppc64
returns-in-Ppc64 c = c.first_straddling.ensures ∙ ⊎_elim (λ e. rw e) (λ e. rw e) c.in-Ppc64.is

pub returns-in-Ppc64b : goal.returns-in-Ppc64b
returns-in-Ppc64b c = c.first_straddling-in-Ppc64b.ensures ∙ rw c.in-Ppc64b.is
