-- By the outcome.
use mathlib.Core.Path.{◌∙◌}
use Rattle.c_signatures.proofs.Laws.{accepted-answer, refused-answer}
use Rattle.c_signatures.proofs.fz_read_signature.Goals as goal

pub returns-in-Ok : goal.returns-in-Ok
returns-in-Ok c = accepted-answer _ _ c.outcome_of.ensures _ c.in-Ok.is

pub returns-in-Err : goal.returns-in-Err
returns-in-Err c = c.fault_answer.ensures ∙ refused-answer _ _ c.outcome_of.ensures _ c.in-Err.is
