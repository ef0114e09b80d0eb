-- By the call of check_plan.
use mathlib.Core.Path.{ap, ◌∙◌}
use Rattle.c_stored.specs.Stored.{check_words}
use Rattle.c_stored.proofs.fz_check_plan.Goals as goal

pub returns : goal.returns
returns c = c.check_words.ensures ∙ ap check_words c.check_plan-a.ensures
