-- The convention's rules, and then the ellipsis.
use mathlib.Core.Path.{◌∙◌}
use Rattle.call_arguments.proofs.rules_in.Goals as goal

pub returns : goal.returns
returns c = c.with_ellipsis.ensures ∙ rw c.call_rules_of.ensures
