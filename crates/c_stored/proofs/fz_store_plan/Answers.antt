-- By the call of store_plan.
use mathlib.Core.Path.{ap, ◌∙◌}
use Rattle.c_stored.specs.Stored.{stored_words}
use Rattle.c_stored.proofs.fz_store_plan.Goals as goal

pub returns : goal.returns
returns c = (c.stored_words.ensures ∙ ap stored_words c.store_plan-a.ensures.0, c.store_plan-a.ensures.1)
