-- The words of an exported function's answer. Document 01, "When the bridge says no": "A refusal is a number and a place (offset of the
-- faulty item's header; 0 for refusals 1 and 10 to 24). .. counts are 0." Assumes nothing.
use Rattle.std.specs.Prelude.{ℕ}
use Rattle.c_answers.specs.declared.Answer.{Answer}

-- a number and a place, and no count; number 0 says yes
abbrev pub answer_of : ℕ → ℕ → Answer
answer_of number place = record { number = number; place = place; items = 0 }

abbrev pub yes : Answer
yes = answer_of 0 0
