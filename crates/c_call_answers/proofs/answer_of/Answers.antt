-- A refusal's number and place, in the surface's words.
use Rattle.c_call_answers.proofs.Laws.{at-error, done-answer, unread-answer, refused-answer}
use mathlib.Core.Path.{◌∙◌}
use Rattle.call_slots.specs.declared.CallError.{CallError}
use Rattle.c_call_answers.proofs.answer_of.Goals as goal

pub returns-in-Ok : goal.returns-in-Ok
returns-in-Ok c = done-answer _ c.in-Ok.is

pub returns-in-Unread : goal.returns-in-Unread
returns-in-Unread c = c.fault_answer.ensures ∙ unread-answer _ c.in-Unread.fault (at-error _ _ (CallError.Unread c.in-Unread.fault) c.in-Err.is c.in-Unread.is)

pub returns-in-Refused : goal.returns-in-Refused
returns-in-Refused c = refused-answer _ c.in-Refused.reason _ (at-error _ _ (CallError.Refused c.in-Refused.reason) c.in-Err.is c.in-Refused.is) c.from.ensures
