-- The words of the answers of the frame machine's calls. Document 01, "When the bridge says no": "A refusal is a number and a place
-- (.. 0 for refusals 1 and 10 to 24) .. counts are 0." Assumes nothing.
use Rattle.frame_machine.specs.Answers.{FrameAnswer}
use Rattle.frame_machine.specs.Answers.{frame_answer_number}
use Rattle.c_answers.specs.declared.Answer.{Answer}
use Rattle.c_answers.specs.Answers.{answer_of}

unfoldable pub frame_answer : FrameAnswer → Answer
frame_answer a = answer_of (frame_answer_number a) 0
