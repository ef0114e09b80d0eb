-- By the call of machine_words. Assumes nothing.
use Rattle.c_frame_answers.specs.Frames.{frame_answer}
use mathlib.Core.Path.{ap, ◌∙◌}
use Rattle.c_starts.proofs.fz_start_z.Goals as goal

pub returns : goal.returns
returns c = record {
  value = c.answer_of.ensures ∙ ap frame_answer c.start-a.ensures.value;
  machine_after = c.start-a.ensures.words_after;
  memory_after = c.start-a.ensures.memory_after;
}
