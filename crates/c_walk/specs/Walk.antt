-- The words of the answers of a walker's calls. Document 02, No. 5: words that are no walker's "give 23", with place and count 0; all else is answered as reading is. Assumes nothing.
use Rattle.c_answers.specs.declared.Answer.{Answer}
use Rattle.c_answers.specs.Answers.{answer_of}
use Rattle.c_call_answers.specs.Calls.{call_answer}
use Rattle.call_walker.specs.declared.WalkerAnswer.{WalkerAnswer}

unfoldable pub walk_answer : WalkerAnswer → Answer
walk_answer WalkerAnswer.Lost = answer_of 23 0
walk_answer (WalkerAnswer.Called a) = call_answer a
