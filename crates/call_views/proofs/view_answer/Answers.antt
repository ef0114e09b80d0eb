-- A signature's refusal, or the tests.
use mathlib.Core.Path.{◌∙◌}
use Rattle.call_slots.specs.declared.CallError.{CallError}
use Rattle.call_slots.proofs.Refusals.{handed}
use Rattle.call_views.proofs.view_answer.Goals as goal

pub returns-in_err-outcome : goal.returns-in_err-outcome
returns-in_err-outcome c = handed _ (CallError.Unread c.in_err-outcome.field-0.0) c.from_residual.ensures.1 ∙ rw c.in_err-outcome.was

pub returns : goal.returns
returns c = c.view_tested.ensures ∙ rw c.in_ok-outcome.was
