-- By the call of machine_words. Assumes nothing.
use Rattle.c_frame_answers.specs.Frames.{frame_answer}
use mathlib.Core.Path.{ap, ◌∙◌}
use Rattle.c_frames.proofs.fz_write_memory.Goals as goal

pub returns : goal.returns
returns c = record {
  value = c.answer_of.ensures ∙ ap frame_answer c.write_memory-a.ensures.value;
  memory_after = c.write_memory-a.ensures.memory_after;
}
