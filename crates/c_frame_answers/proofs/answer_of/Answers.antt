-- The machine's number, in the surface's words. Assumes nothing.
use Rattle.c_frame_answers.specs.Frames.{frame_answer}
use Rattle.c_frame_answers.proofs.answer_of.Goals as goal

pub returns : goal.returns
unfolding frame_answer
returns c = rw c.answer_number.ensures
