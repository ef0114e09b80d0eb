-- By cases on the result.
use mathlib.Core.Path.{◌∙◌}
use Rattle.plan_planning.proofs.hidden_in.Goals as goal

pub returns-in-Some : goal.returns-in-Some
returns-in-Some c = c.hidden_for.ensures ∙ rw (c.call_rules_of.ensures, c.in-Some.is)
