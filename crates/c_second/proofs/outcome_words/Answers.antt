-- By cases on the outcome.
use mathlib.Core.Path.{◌∙◌}
use Rattle.c_second.proofs.outcome_words.Goals as goal

pub returns-in-Ok : goal.returns-in-Ok
returns-in-Ok c = rw c.in-Ok.is

pub returns-in-Err : goal.returns-in-Err
returns-in-Err c = c.fault_answer.ensures ∙ rw c.in-Err.is
