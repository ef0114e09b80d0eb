-- What stands before the arguments is read; then all that follows, with words for few arguments or for as many as there can be.
use native.Mathlib.Omega.{arith}
use mathlib.Core.Path.{refl, sym, ◌∙◌}
use Rattle.sig_signatures.proofs.Laws.{signature-refused}
use Rattle.sig_signatures.proofs.Sound.{head-bounded}
use Rattle.call_slots.specs.Buffers.{buffers}
use Rattle.call_arguments.proofs.Kept.{none_left, none-arguments}
use Rattle.call_slots.specs.declared.CallError.{CallError}
use Rattle.call_slots.proofs.Refusals.{handed}
use Rattle.call_read.proofs.Accepted.{answer-unread, answer-none, values-none, values-kept}
use Rattle.call_read.proofs.read.Goals as goal

pub read_none-requires : goal.read_none-requires
read_none-requires c = let head = sym c.read_head.ensures ∙ c.in_ok-head.was in none_left _ _ _ _ _ _ _ head c.if-head.true

pub returns-then-head : goal.returns-then-head
returns-then-head c =
    let head = sym c.read_head.ensures ∙ c.in_ok-head.was in
    let none = none-arguments c.args.sig.now _ _ _ _ _ (none_left c.args.sig.now _ _ _ _ _ _ head c.if-head.true).1 in
    record {
      value = answer-none c.args.sig.now none c.args.base ((buffers c.args.image.now c.args.area.now c.args.copies.now)) _ _ c.read_none.ensures;
      values_after = values-none c.args.sig.now none c.args.base ((buffers c.args.image.now c.args.area.now c.args.copies.now)) _ c.args.values.now;
    }

pub overflow_sub-head : goal.overflow_sub-head
overflow_sub-head c = let k = head-bounded _ _ _ _ _ _ _ _ c.read_head.ensures c.in_ok-head.was in omega arith

pub read_part-requires : goal.read_part-requires
read_part-requires c = (sym c.read_head.ensures ∙ c.in_ok-head.was, λ i few within. omega arith)

pub read_part-requires-2 : goal.read_part-requires-2
read_part-requires-2 c = (sym c.read_head.ensures ∙ c.in_ok-head.was, λ i few within. omega arith)

pub returns-in_err-head : goal.returns-in_err-head
returns-in_err-head c =
    let handed-on = handed _ (CallError.Unread c.in_err-head.field-0.0) c.from_residual.ensures.1 in record {
      value = handed-on ∙ answer-unread _ _ _ _ _ (signature-refused _ _ c.read_head.ensures _ c.in_err-head.was);
      values_after = values-kept c.args.sig.now c.args.base _ _ c.args.values.now c.from_residual.ensures.0;
    }
