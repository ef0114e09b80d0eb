-- By the call of fill_stored.
use mathlib.Core.Path.{ap, ◌∙◌}
use Rattle.c_stored.specs.Stored.{stored_fill_words}
use Rattle.c_stored.proofs.fz_fill_stored.Goals as goal

pub returns : goal.returns
returns c = record {
  value = c.stored_fill_words.ensures ∙ ap stored_fill_words c.fill_stored-a.ensures.value;
  copies_after = c.fill_stored-a.ensures.copies_after;
}
