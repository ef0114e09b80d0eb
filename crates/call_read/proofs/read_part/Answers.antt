-- The arguments are read and kept, the lengths are tested, every argument is checked, and only then are the values taken.
use Rattle.sig_items.specs.declared.Fault.{Fault}
use Rattle.std.proofs.Common.{Result}
use Prim.Native.Nat.{ℕ}
use mathlib.Core.Path.{◌≡◌, refl, sym, ap, ◌∙◌, subst}
use Rattle.plan_plans.specs.declared.Measured.{Measured}
use Rattle.call_slots.specs.Buffers.{buffers}
use Rattle.call_slots.specs.Arguments.{sizes_for, plan_for, rules_for}
use Rattle.call_slots.specs.declared.CallError.{CallError}
use Rattle.call_slots.proofs.Refusals.{handed, handed_on, err-refused, ok-passed, ok-done}
use Rattle.call_arguments.specs.Helpers.{KeptOf, KeptWhere}
use Rattle.call_arguments.proofs.Kept.{headed}
use Rattle.call_read.specs.Read.{read_lengths, read_values}
use Rattle.call_read.proofs.Arguments.{all-readable}
use Rattle.call_read.proofs.Accepted.{Lent, tests-lent, all-ready, all-sizes, answer-refused, answer-lengths, answer-arguments, values-kept, values-taken}
use Rattle.call_read.proofs.read_part.Goals as goal
use Rattle.call_slots.specs.Answer.{call_done}

pub returns-in_err-tested : goal.returns-in_err-tested
returns-in_err-tested c =
    record {
      value =
          handed_on _ c.tested.result c.in_err-tested.field-0.0 c.from_residual-in_err-tested.ensures.1 c.in_err-tested.was
          ∙ answer-lengths c.args.sig.now _ c.args.base _ _ c.keep_call-k.ensures.sizes_value _ c.in_ok-m.was _ refl _ refl _ c.tested.ensures (err-refused _ _ c.in_err-tested.was);
      values_after = values-kept c.args.sig.now c.args.base _ _ c.args.values.now c.from_residual-in_err-tested.ensures.0;
    }

pub first_refusal-requires : goal.first_refusal-requires
first_refusal-requires c =
    let accepted = sym (ap (λ (m : Measured). m.outcome) c.keep_call-k.ensures.sizes_value) ∙ c.in_ok-m.was in
    let rules : c.rules_in-rules.result ≡ rules_for c.args.sig.now = c.rules_in-rules.ensures ∙ (headed c.args.sig.now _ _ _ _ _ _ c.requires.0 _ accepted).rules in
    let kept : KeptOf c.args.sig.now c.args.head.convention c.keep_call-k.new.kept c.keep_call-k.result.count =
    subst (λ (o : Result ℕ Fault). KeptWhere o c.args.sig.now c.args.head.convention c.keep_call-k.new.kept c.keep_call-k.result.count) c.in_ok-m.was c.keep_call-k.ensures.kept_where in
    let fit = tests-lent c.args.sig.now _ _ c.keep_call-k.ensures.sizes_value (sym c.tested.ensures ∙ ok-done _ _ c.in_ok-tested.was) in
    all-ready c.args.sig.now _ _ _ rules fit.image fit.area _ _ _ kept

pub returns-in_err-first_refusal : goal.returns-in_err-first_refusal
returns-in_err-first_refusal c =
    let accepted = sym (ap (λ (m : Measured). m.outcome) c.keep_call-k.ensures.sizes_value) ∙ c.in_ok-m.was in
    let rules : c.rules_in-rules.result ≡ rules_for c.args.sig.now = c.rules_in-rules.ensures ∙ (headed c.args.sig.now _ _ _ _ _ _ c.requires.0 _ accepted).rules in
    let kept : KeptOf c.args.sig.now c.args.head.convention c.keep_call-k.new.kept c.keep_call-k.result.count =
    subst (λ (o : Result ℕ Fault). KeptWhere o c.args.sig.now c.args.head.convention c.keep_call-k.new.kept c.keep_call-k.result.count) c.in_ok-m.was c.keep_call-k.ensures.kept_where in
    record {
      value =
          handed_on _ c.first_refusal.result c.in_err-first_refusal.field-0.0 c.from_residual-in_err-first_refusal.ensures.1 c.in_err-first_refusal.was
          ∙ answer-arguments c.args.sig.now _ c.args.base _ _ c.keep_call-k.ensures.sizes_value _ c.in_ok-m.was _ rules _ kept.same _ _ c.tested.ensures (ok-passed _ _ c.in_ok-tested.was) c.first_refusal.ensures;
      values_after = values-kept c.args.sig.now c.args.base _ _ c.args.values.now c.from_residual-in_err-first_refusal.ensures.0;
    }

pub take_arguments-requires : goal.take_arguments-requires
take_arguments-requires c =
    let accepted = sym (ap (λ (m : Measured). m.outcome) c.keep_call-k.ensures.sizes_value) ∙ c.in_ok-m.was in
    let rules : c.rules_in-rules.result ≡ rules_for c.args.sig.now = c.rules_in-rules.ensures ∙ (headed c.args.sig.now _ _ _ _ _ _ c.requires.0 _ accepted).rules in
    let kept : KeptOf c.args.sig.now c.args.head.convention c.keep_call-k.new.kept c.keep_call-k.result.count =
    subst (λ (o : Result ℕ Fault). KeptWhere o c.args.sig.now c.args.head.convention c.keep_call-k.new.kept c.keep_call-k.result.count) c.in_ok-m.was c.keep_call-k.ensures.kept_where in
    let fit = tests-lent c.args.sig.now _ _ c.keep_call-k.ensures.sizes_value (sym c.tested.ensures ∙ ok-done _ _ c.in_ok-tested.was) in
    let ready = all-ready c.args.sig.now _ _ _ rules fit.image fit.area _ _ _ kept in
    let done = sym c.first_refusal.ensures ∙ ok-done _ _ c.in_ok-first_refusal.was in
    (record { room = ready.room; each = all-readable _ _ _ _ ready.each done }, all-sizes c.args.sig.now _ _ _ kept ∙ sym fit.values)

pub returns-in_err-m : goal.returns-in_err-m
returns-in_err-m c =
    let handed-on = handed _ (CallError.Unread c.in_err-m.field-0.0) c.from_residual.ensures.1 in record {
      value = handed-on ∙ answer-refused c.args.sig.now _ c.args.base _ _ c.keep_call-k.ensures.sizes_value _ c.in_err-m.was;
      values_after = values-kept c.args.sig.now c.args.base _ _ c.args.values.now c.from_residual.ensures.0;
    }

pub returns : goal.returns
returns c =
    let accepted = sym (ap (λ (m : Measured). m.outcome) c.keep_call-k.ensures.sizes_value) ∙ c.in_ok-m.was in
    let rules : c.rules_in-rules.result ≡ rules_for c.args.sig.now = c.rules_in-rules.ensures ∙ (headed c.args.sig.now _ _ _ _ _ _ c.requires.0 _ accepted).rules in
    let kept : KeptOf c.args.sig.now c.args.head.convention c.keep_call-k.new.kept c.keep_call-k.result.count =
    subst (λ (o : Result ℕ Fault). KeptWhere o c.args.sig.now c.args.head.convention c.keep_call-k.new.kept c.keep_call-k.result.count) c.in_ok-m.was c.keep_call-k.ensures.kept_where in
    let done = ok-done _ _ c.in_ok-first_refusal.was in record {
      value = answer-arguments c.args.sig.now _ c.args.base _ _ c.keep_call-k.ensures.sizes_value _ c.in_ok-m.was _ rules _ kept.same _ call_done c.tested.ensures (ok-passed _ _ c.in_ok-tested.was) (sym done ∙ c.first_refusal.ensures);
      values_after = values-taken c.args.sig.now c.args.base ((buffers c.args.image.now c.args.area.now c.args.copies.now)) c.args.values.now _ _ _ rules kept.same c.take_arguments.ensures;
    }
