-- The words of a refused reading. Document 02, No. 10: "A refused reading now reports how many headers had passed .. when it stopped ..
-- Document 01's "counts are 0" is amended for 1 to 9". Assumes nothing.
use Rattle.sig_items.specs.declared.Fault.{Fault}
use Rattle.sig_items.specs.Refusals.{refusal_number}
use Rattle.c_answers.specs.declared.Answer.{Answer}

unfoldable pub fault_answer : Fault → Answer
fault_answer f = record { number = refusal_number f.reason; place = f.place; items = f.passed }
