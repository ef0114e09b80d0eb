-- The words of the answers of filling, reading, home, view and the walker. Document 01, "When the bridge says no": "A refusal is a number and a
-- place (.. 0 for refusals 1 and 10 to 24). .. counts are 0", but for a reading's own refusal. Assumes nothing.
use Rattle.call_slots.specs.Refusals.{call_refusal_number}
use Rattle.c_answers.specs.declared.Answer.{Answer}
use Rattle.c_answers.specs.Answers.{answer_of, yes}
use Rattle.c_faults.specs.Faults.{fault_answer}
use Rattle.std.specs.Prelude.{Ok, Err}
use Rattle.call_slots.specs.Answer.{CallAnswer}
use Rattle.call_slots.specs.declared.CallError.{CallError}

unfoldable pub call_answer : CallAnswer → Answer
call_answer (Ok tt) = yes
call_answer (Err (CallError.Unread f)) = fault_answer f
call_answer (Err (CallError.Refused reason)) = answer_of (call_refusal_number reason) 0
