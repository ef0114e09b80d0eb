-- The signature is read and planned, the lengths are tested, every FPR is tested, and only then is anything written.
use mathlib.Core.Path.{refl, sym, ◌∙◌}
use Prim.Native.Nat.{◌≤◌}
use lib.ListN.{length}
use Rattle.sig_signatures.proofs.Types.{answer-plannable}
use Rattle.call_slots.proofs.Answered.{plan-same}
use Rattle.call_slots.specs.declared.CallError.{CallError}
use Rattle.call_slots.proofs.Refusals.{handed, handed_on, err-refused, ok-passed, ok-done}
use Rattle.call_home.specs.Home.{home_area}
use Rattle.call_home.specs.Helpers.{AllRegistered}
use Rattle.call_home.proofs.Registers.{tests-marked, home-passed, all-registered, home-refused, home-lengths, home-registers, area-kept, area-homed}
use Rattle.call_home.proofs.home.Goals as goal
use Rattle.call_slots.specs.Answer.{call_done}

pub plan_signature-p-requires : goal.plan_signature-p-requires
plan_signature-p-requires c = rw c.read_signature-g.ensures (answer-plannable c.args.sig.now)

pub call_outcome-requires : goal.call_outcome-requires
call_outcome-requires c = c.read_signature-g.ensures

pub returns-in_err-call_outcome : goal.returns-in_err-call_outcome
returns-in_err-call_outcome c =
    let handed-on = handed _ (CallError.Unread c.in_err-call_outcome.field-0.0) c.from_residual.ensures.1 in record {
      value = handed-on ∙ home-refused c.args.sig.now c.args.image.now _ _ (sym c.call_outcome.ensures ∙ c.in_err-call_outcome.was);
      area_after = area-kept c.args.sig.now _ c.args.image.now c.args.area.now c.from_residual.ensures.0;
    }

pub returns-in_err-home_tested : goal.returns-in_err-home_tested
returns-in_err-home_tested c =
    let same = plan-same c.args.sig.now _ c.plan_signature-p.result c.read_signature-g.ensures c.plan_signature-p.ensures in
    let handed-on = handed_on _ c.home_tested.result c.in_err-home_tested.field-0.0 c.from_residual-in_err-home_tested.ensures.1 c.in_err-home_tested.was in record {
      value =
          handed-on
          ∙ home-lengths c.args.sig.now c.args.image.now _ _ c.plan_signature-p.result _ c.read_signature-g.ensures same (sym c.call_outcome.ensures ∙ c.in_ok-call_outcome.was) _ (tests-marked c.read_signature-g.result _ _ _ _ (rw c.call_rules_of-rules.ensures at c.home_tested.ensures)) (err-refused _ _ c.in_err-home_tested.was);
      area_after = area-kept c.args.sig.now _ c.args.image.now c.args.area.now c.from_residual-in_err-home_tested.ensures.0;
    }

pub first_unwidened-floats-requires : goal.first_unwidened-floats-requires
first_unwidened-floats-requires c =
    let done = sym (tests-marked c.read_signature-g.result _ _ _ _ (rw c.call_rules_of-rules.ensures at c.home_tested.ensures)) ∙ ok-done _ _ c.in_ok-home_tested.was in
    let lent = home-passed _ _ _ _ done in
    let same = plan-same c.args.sig.now _ _ c.read_signature-g.ensures c.plan_signature-p.ensures in
    all-registered c.args.sig.now _ _ _ c.read_signature-g.ensures same lent.homes lent.image

pub returns-in_err-floats : goal.returns-in_err-floats
returns-in_err-floats c =
    let same = plan-same c.args.sig.now _ c.plan_signature-p.result c.read_signature-g.ensures c.plan_signature-p.ensures in
    let handed-on = handed_on _ c.first_unwidened-floats.result c.in_err-floats.field-0.0 c.from_residual-in_err-floats.ensures.1 c.in_err-floats.was in record {
      value =
          handed-on
          ∙ home-registers c.args.sig.now c.args.image.now _ _ c.plan_signature-p.result _ c.read_signature-g.ensures same (sym c.call_outcome.ensures ∙ c.in_ok-call_outcome.was) _ _ (tests-marked c.read_signature-g.result _ _ _ _ (rw c.call_rules_of-rules.ensures at c.home_tested.ensures)) (ok-passed _ _ c.in_ok-home_tested.was) c.first_unwidened-floats.ensures;
      area_after = area-kept c.args.sig.now _ c.args.image.now c.args.area.now c.from_residual-in_err-floats.ensures.0;
    }

pub put_homes-requires : goal.put_homes-requires
put_homes-requires c =
    let done = sym (tests-marked c.read_signature-g.result _ _ _ _ (rw c.call_rules_of-rules.ensures at c.home_tested.ensures)) ∙ ok-done _ _ c.in_ok-home_tested.was in
    let lent = home-passed _ _ _ _ done in
    let same = plan-same c.args.sig.now _ _ c.read_signature-g.ensures c.plan_signature-p.ensures in
    (all-registered c.args.sig.now _ _ _ c.read_signature-g.ensures same lent.homes lent.image, lent.room)

pub returns : goal.returns
returns c =
    let same = plan-same c.args.sig.now _ c.plan_signature-p.result c.read_signature-g.ensures c.plan_signature-p.ensures in
    let done = ok-done _ _ c.in_ok-floats.was in record {
      value = home-registers c.args.sig.now c.args.image.now _ _ c.plan_signature-p.result _ c.read_signature-g.ensures same (sym c.call_outcome.ensures ∙ c.in_ok-call_outcome.was) _ call_done (tests-marked c.read_signature-g.result _ _ _ _ (rw c.call_rules_of-rules.ensures at c.home_tested.ensures)) (ok-passed _ _ c.in_ok-home_tested.was) (sym done ∙ c.first_unwidened-floats.ensures);
      area_after = area-homed c.args.sig.now c.args.image.now c.args.area.now _ _ c.plan_signature-p.result c.read_signature-g.ensures same c.put_homes.ensures;
    }
