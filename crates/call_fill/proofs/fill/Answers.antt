-- By what stands before the arguments: a refusal, no arguments, or some, for which there are rows enough.
use native.Mathlib.Omega.{arith}
use mathlib.Core.Path.{refl, sym, ◌∙◌}
use Rattle.sig_signatures.proofs.Laws.{signature-refused}
use Rattle.sig_signatures.proofs.Sound.{head-bounded}
use Rattle.call_arguments.proofs.Kept.{none_left}
use Rattle.call_fill.specs.Fill.{fill_buffers}
use Rattle.call_slots.specs.declared.CallError.{CallError}
use Rattle.call_slots.proofs.Refusals.{handed}
use Rattle.call_fill.proofs.Accepted.{answer-unread, buffers-kept}
use Rattle.call_fill.proofs.fill.Goals as goal

pub fill_none-requires : goal.fill_none-requires
fill_none-requires c = let head = sym c.read_head.ensures ∙ c.in_ok-head.was in none_left _ _ _ _ _ _ _ head c.if-head.true

pub overflow_sub-head : goal.overflow_sub-head
overflow_sub-head c = let k = head-bounded _ _ _ _ _ _ _ _ c.read_head.ensures c.in_ok-head.was in omega arith

pub fill_part-requires : goal.fill_part-requires
fill_part-requires c = (sym c.read_head.ensures ∙ c.in_ok-head.was, λ i few within. omega arith)

pub fill_part-requires-2 : goal.fill_part-requires-2
fill_part-requires-2 c = (sym c.read_head.ensures ∙ c.in_ok-head.was, λ i few within. omega arith)

pub returns-in_err-head : goal.returns-in_err-head
returns-in_err-head c =
    let handed-on = handed _ (CallError.Unread c.in_err-head.field-0.0) c.from_residual.ensures.1 in record {
      value = handed-on ∙ answer-unread _ _ _ _ _ (signature-refused _ _ c.read_head.ensures _ c.in_err-head.was);
      copies_after = buffers-kept c.args.sig.now c.args.values.now c.args.base c.args.hidden _ _ c.from_residual.ensures.0;
    }
