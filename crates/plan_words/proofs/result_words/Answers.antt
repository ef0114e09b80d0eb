-- Of nothing, or of a type.
use Rattle.plan_words.proofs.result_words.Goals as goal

pub returns-in-Some : goal.returns-in-Some
returns-in-Some c = rw c.in-Some.is c.value_words.ensures
