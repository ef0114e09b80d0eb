-- The sizes of a call without arguments; where no test refuses, the hidden address is put.
use mathlib.Core.Path.{refl, sym, ap, ◌∙◌}
use mathlib.Core.List.{[]}
use Rattle.plan_plans.specs.declared.Measured.{Measured}
use Rattle.call_slots.specs.Buffers.{put_all}
use Rattle.call_slots.specs.Placements.{slots_of_all}
use Rattle.call_slots.specs.declared.CallError.{CallError}
use Rattle.call_slots.proofs.Refusals.{handed, handed_on, ok-done}
use Rattle.call_arguments.proofs.Kept.{none-arguments, headed}
use Rattle.base_conventions.specs.Numbers.{word_bytes}
use Rattle.call_fill.specs.Fill.{fill_buffers}
use Rattle.call_fill.specs.Helpers.{address_places}
use Rattle.call_fill.proofs.Accepted.{tests-lent, answer-refused, answer-tested, slots-are, buffers-kept, buffers-done}
use Rattle.call_fill.proofs.fill_none.Goals as goal

pub measure_none-m-requires : goal.measure_none-m-requires
measure_none-m-requires c = c.requires

pub returns-in_err-tested : goal.returns-in_err-tested
returns-in_err-tested c =
    let accepted = sym (ap (λ (m : Measured). m.outcome) c.measure_none-m.ensures) ∙ c.in_ok-m.was in
    let head = headed c.args.sig.now _ _ _ _ _ _ c.requires.1 _ accepted in
    let answer = answer-tested c.args.sig.now _ _ _ head _ c.args.base c.args.address _ _ _ _ _ c.measure_none-m.ensures c.hidden_in-hidden.ensures c.high_address-high.ensures c.in_ok-m.was c.tested.ensures in
    record {
      value = handed_on _ c.tested.result c.in_err-tested.field-0.0 c.from_residual-in_err-tested.ensures.1 c.in_err-tested.was ∙ answer;
      copies_after = buffers-kept c.args.sig.now c.args.values.now c.args.base c.args.address _ _ c.from_residual-in_err-tested.ensures.0;
    }

pub put_hidden-requires : goal.put_hidden-requires
put_hidden-requires c =
    let lent = tests-lent c.args.sig.now _ c.args.base _ _ c.ranges.base.fits c.measure_none-m.ensures (sym c.tested.ensures ∙ ok-done _ _ c.in_ok-tested.was) in
    lent.image

pub returns-in_err-m : goal.returns-in_err-m
returns-in_err-m c =
    let handed-on = handed _ (CallError.Unread c.in_err-m.field-0.0) c.from_residual.ensures.1 in record {
      value = handed-on ∙ answer-refused c.args.sig.now _ c.args.base c.args.address _ _ c.measure_none-m.ensures c.in_err-m.was;
      copies_after = buffers-kept c.args.sig.now c.args.values.now c.args.base c.args.address _ _ c.from_residual.ensures.0;
    }

pub returns : goal.returns
unfolding put_all slots_of_all
returns c =
    let accepted = sym (ap (λ (m : Measured). m.outcome) c.measure_none-m.ensures) ∙ c.in_ok-m.was in
    let head = headed c.args.sig.now _ _ _ _ _ _ c.requires.1 _ accepted in
    let answer = answer-tested c.args.sig.now _ _ _ head _ c.args.base c.args.address _ _ _ _ _ c.measure_none-m.ensures c.hidden_in-hidden.ensures c.high_address-high.ensures c.in_ok-m.was c.tested.ensures in
    let done = ok-done _ _ c.in_ok-tested.was in
    let slots = slots-are c.args.sig.now _ _ _ head c.args.values.now c.args.base c.args.address _ [] c.hidden_in-hidden.ensures (sym (none-arguments c.args.sig.now _ _ _ _ _ c.requires.1)) in record {
      value = sym done ∙ answer;
      copies_after = buffers-done c.args.sig.now c.args.values.now c.args.image.now c.args.area.now c.args.copies.now _ c.args.base c.args.address (word_bytes c.args.head.convention) (address_places c.args.head.convention c.hidden_in-hidden.result) [] _ slots c.put_hidden.ensures refl;
    }
