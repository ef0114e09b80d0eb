-- The arguments are read and kept; where no test refuses, there is room for every slot (`all-ready`), and the hidden address and then the
-- arguments are put.
use Rattle.sig_items.specs.declared.Fault.{Fault}
use Rattle.std.proofs.Common.{Result}
use Prim.Native.Nat.{ℕ}
use mathlib.Core.Path.{refl, sym, ap, subst, ◌∙◌}
use Rattle.base_conventions.specs.Numbers.{word_bytes}
use Rattle.plan_plans.specs.declared.Measured.{Measured}
use Rattle.call_slots.specs.declared.CallError.{CallError}
use Rattle.call_slots.proofs.Refusals.{handed, handed_on, ok-done}
use Rattle.call_kept.specs.Helpers.{kept_all}
use Rattle.call_arguments.specs.Helpers.{KeptWhere}
use Rattle.call_arguments.proofs.Kept.{headed}
use Rattle.call_fill.specs.Fill.{fill_buffers}
use Rattle.call_fill.specs.Helpers.{address_places}
use Rattle.call_fill.proofs.Accepted.{tests-lent, all-ready, all-sizes, answer-refused, answer-tested, slots-are, hidden-length, buffers-kept, buffers-done}
use Rattle.call_fill.proofs.fill_part.Goals as goal

pub keep_call-p-requires : goal.keep_call-p-requires
keep_call-p-requires c = c.requires

pub returns-in_err-tested : goal.returns-in_err-tested
returns-in_err-tested c =
    let accepted = sym (ap (λ (m : Measured). m.outcome) c.keep_call-p.ensures.sizes_value) ∙ c.in_ok-m.was in
    let head = headed c.args.sig.now _ _ _ _ _ _ c.requires.0 _ accepted in
    let answer = answer-tested c.args.sig.now _ _ _ head _ c.args.base c.args.address _ _ _ _ _ c.keep_call-p.ensures.sizes_value c.hidden_in-hidden.ensures c.high_address-high.ensures c.in_ok-m.was c.tested.ensures in
    record {
      value = handed_on _ c.tested.result c.in_err-tested.field-0.0 c.from_residual-in_err-tested.ensures.1 c.in_err-tested.was ∙ answer;
      copies_after = buffers-kept c.args.sig.now c.args.values.now c.args.base c.args.address _ _ c.from_residual-in_err-tested.ensures.0;
    }

pub put_hidden-requires : goal.put_hidden-requires
put_hidden-requires c =
    let lent = tests-lent c.args.sig.now _ c.args.base _ _ c.ranges.base.fits c.keep_call-p.ensures.sizes_value (sym c.tested.ensures ∙ ok-done _ _ c.in_ok-tested.was) in
    lent.image

pub put_arguments-requires : goal.put_arguments-requires
put_arguments-requires c =
    let accepted = sym (ap (λ (m : Measured). m.outcome) c.keep_call-p.ensures.sizes_value) ∙ c.in_ok-m.was in
    let head = headed c.args.sig.now _ _ _ _ _ _ c.requires.0 _ accepted in
    let answer = answer-tested c.args.sig.now _ _ _ head _ c.args.base c.args.address _ _ _ _ _ c.keep_call-p.ensures.sizes_value c.hidden_in-hidden.ensures c.high_address-high.ensures c.in_ok-m.was c.tested.ensures in
    let lent = tests-lent c.args.sig.now _ c.args.base _ _ c.ranges.base.fits c.keep_call-p.ensures.sizes_value (sym c.tested.ensures ∙ ok-done _ _ c.in_ok-tested.was) in
    let kept = subst (λ (o : Result ℕ Fault). KeptWhere o c.args.sig.now c.args.head.convention c.keep_call-p.new.kept c.keep_call-p.result.count) c.in_ok-m.was c.keep_call-p.ensures.kept_where in
    let l = hidden-length (word_bytes c.args.head.convention) (address_places c.args.head.convention c.hidden_in-hidden.result) c.args.address c.args.image.now _ c.put_hidden.ensures in (
      all-ready c.args.sig.now _ c.args.head.convention c.keep_call-p.new.kept c.keep_call-p.result.count c.args.base _ _ _ (c.rules_in-rules.ensures ∙ head.rules) kept (l ∙ lent.image) lent.area lent.copies lent.low,
      all-sizes c.args.sig.now c.args.head.convention c.keep_call-p.new.kept c.keep_call-p.result.count _ kept lent.values,
    )

pub returns-in_err-m : goal.returns-in_err-m
returns-in_err-m c =
    let handed-on = handed _ (CallError.Unread c.in_err-m.field-0.0) c.from_residual.ensures.1 in record {
      value = handed-on ∙ answer-refused c.args.sig.now _ c.args.base c.args.address _ _ c.keep_call-p.ensures.sizes_value c.in_err-m.was;
      copies_after = buffers-kept c.args.sig.now c.args.values.now c.args.base c.args.address _ _ c.from_residual.ensures.0;
    }

pub returns : goal.returns
returns c =
    let accepted = sym (ap (λ (m : Measured). m.outcome) c.keep_call-p.ensures.sizes_value) ∙ c.in_ok-m.was in
    let head = headed c.args.sig.now _ _ _ _ _ _ c.requires.0 _ accepted in
    let answer = answer-tested c.args.sig.now _ _ _ head _ c.args.base c.args.address _ _ _ _ _ c.keep_call-p.ensures.sizes_value c.hidden_in-hidden.ensures c.high_address-high.ensures c.in_ok-m.was c.tested.ensures in
    let kept = subst (λ (o : Result ℕ Fault). KeptWhere o c.args.sig.now c.args.head.convention c.keep_call-p.new.kept c.keep_call-p.result.count) c.in_ok-m.was c.keep_call-p.ensures.kept_where in
    let done = ok-done _ _ c.in_ok-tested.was in
    let slots = slots-are c.args.sig.now _ _ _ head c.args.values.now c.args.base c.args.address _ (kept_all c.args.head.convention c.keep_call-p.new.kept c.keep_call-p.result.count) c.hidden_in-hidden.ensures kept.same in record {
      value = sym done ∙ answer;
      copies_after = buffers-done c.args.sig.now c.args.values.now c.args.image.now c.args.area.now c.args.copies.now _ c.args.base c.args.address (word_bytes c.args.head.convention) (address_places c.args.head.convention c.hidden_in-hidden.result) _ _ slots c.put_hidden.ensures (rw c.rules_in-rules.ensures at c.put_arguments.ensures);
    }
