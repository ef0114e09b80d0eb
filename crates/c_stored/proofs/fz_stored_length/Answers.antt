-- By the call of stored_length.
use mathlib.Core.Path.{ap, ◌∙◌}
use Rattle.c_stored.specs.Stored.{stored_words}
use Rattle.c_stored.proofs.fz_stored_length.Goals as goal

pub returns : goal.returns
returns c = c.stored_words.ensures ∙ ap stored_words c.stored_length-a.ensures
