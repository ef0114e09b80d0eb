-- By the call of walking. Assumes nothing.
use mathlib.Core.Path.{ap, ◌∙◌}
use Rattle.c_walk.specs.Walk.{walk_answer}
use Rattle.c_walk.proofs.fz_walk.Goals as goal

pub returns : goal.returns
returns c = record {
  value = c.answer_of.ensures ∙ ap walk_answer c.walk-a.ensures.value;
  walker_after = c.walk-a.ensures.words_after;
  value_after = c.walk-a.ensures.value_after;
}
