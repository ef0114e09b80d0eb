-- The sizes are measured, and the lengths tested by them.
use mathlib.Core.Path.{◌∙◌}
use Rattle.call_slots.specs.declared.CallError.{CallError}
use Rattle.call_slots.proofs.Refusals.{handed}
use Rattle.call_read.proofs.Accepted.{lengths-refused, lengths-tested}
use Rattle.call_read.proofs.read_none.Goals as goal

pub returns-in_err-m : goal.returns-in_err-m
returns-in_err-m c =
    handed _ (CallError.Unread c.in_err-m.field-0.0) c.from_residual.ensures.1
    ∙ lengths-refused _ _ _ c.measure_none-m.ensures _ c.in_err-m.was

pub returns : goal.returns
returns c = lengths-tested _ _ _ c.measure_none-m.ensures _ c.in_ok-m.was _ c.tested.ensures
