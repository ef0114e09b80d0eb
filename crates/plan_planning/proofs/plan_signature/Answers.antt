use Rattle.sig_signatures.proofs.Types.{length_types}
use Rattle.sig_signatures.specs.Types.{types_in}
use Rattle.plan_plans.proofs.Taken.{taken}
use Rattle.plan_plans.proofs.Turns.{going-marked, going_more, going_end, gone-plan}
use Rattle.plan_plans.specs.Helpers.{planned}
use Rattle.plan_plans.specs.declared.Plan.{Plan}
use Rattle.plan_plans.proofs.Fold.{reached-roomy}
use Rattle.plan_places.proofs.Bounds.{rules-lawful}
use Rattle.plan_places.proofs.Marked.{lawful-marked}
use Rattle.plan_places.specs.Step.{rules_of, with_ellipsis, start_of, placed}
use native.Mathlib.Omega.{arith}
use lib.Seq.{length-take-le}
use mathlib.Core.Path.{refl, sym, ap, ◌∙◌}
use Rattle.plan_planning.proofs.plan_signature.Goals as goal

pub result_in-result-requires : goal.result_in-result-requires
result_in-result-requires c = c.requires.result

pub loop-i-init : goal.loop-i-init
loop-i-init c = (
  rw (ap (λ (p : Plan). p.spans) c.blank-plan.ensures, c.start-c.ensures, c.with_ellipsis-rules.ensures, c.call_rules_of.ensures) (going-marked _ _ _ _),
  record { outcome = refl; convention = refl; ellipsis = refl; result = refl; count = refl },
)

pub step-p-requires : goal.step-p-requires
step-p-requires c =
    let t = taken c.args.g c.loop-i.i c.requires c.loop-i-test.true in (
      rw (c.with_ellipsis-rules.ensures, c.call_rules_of.ensures) (lawful-marked _ _ (rules-lawful c.args.g.convention)),
      reached-roomy _ _ _ _ (omega (arith, t.within, c.requires.few)) c.loop-i.invariant.0.reached,
      rw c.size_of-size.ensures t.small,
    )

pub offset_bounds-plan-i : goal.offset_bounds-plan-i
offset_bounds-plan-i c = let t = taken c.args.g c.loop-i.i c.requires c.loop-i-test.true in omega (arith, t.within, c.requires.few)

pub bounds-plan-i : goal.bounds-plan-i
bounds-plan-i c = let t = taken c.args.g c.loop-i.i c.requires c.loop-i-test.true in omega (arith, t.within, c.requires.few)

pub overflow_add-values : goal.overflow_add-values
overflow_add-values c =
    let t = taken c.args.g c.loop-i.i c.requires c.loop-i-test.true in
    omega (arith, t.small, t.within, c.loop-i.invariant.0.reached.small, c.requires.few, c.size_of-size.ensures)

pub loop-i-preserved : goal.loop-i-preserved
unfolding placed
loop-i-preserved c =
    let rules = c.with_ellipsis-rules.ensures ∙ ap (with_ellipsis c.args.g.ellipsis) c.call_rules_of.ensures in
    let many = length_types c.args.g.count c.args.g.arguments c.requires.room in
    let t = taken c.args.g c.loop-i.i c.requires c.loop-i-test.true in (
      rw (c.step-p.ensures, c.size_of-size.ensures, rules)
          (going_more _ _ _ _ _ _ _ _ _ (lawful-marked _ _ (rules-lawful c.args.g.convention)) t.among (omega (arith, many, c.requires.few)) t.small t.next (rw rules at c.loop-i.invariant.0)),
      record { outcome = c.loop-i.invariant.1.outcome; convention = c.loop-i.invariant.1.convention; ellipsis = c.loop-i.invariant.1.ellipsis; result = c.loop-i.invariant.1.result; count = c.loop-i.invariant.1.count },
    )

pub returns-after-loop-i : goal.returns-after-loop-i
unfolding planned
returns-after-loop-i c =
    let many = length_types c.args.g.count c.args.g.arguments c.requires.room in
    let all = length-take-le c.args.g.count c.args.g.arguments c.requires.room in
    rw c.in-Ok.is
    (gone-plan _ c.args.g.convention c.args.g.ellipsis c.args.g.result (types_in c.args.g) _ _ _ c.loop-i.plan _ _
    (c.with_ellipsis-rules.ensures ∙ ap (with_ellipsis c.args.g.ellipsis) c.call_rules_of.ensures)
    (c.start-c.ensures ∙ ap (start_of (rules_of c.args.g.convention)) c.hidden_in-hidden.ensures)
    (going_end _ _ _ _ _ _ _ _ (omega arith) c.loop-i.invariant.0)
    (c.loop-i.invariant.1.outcome ∙ ap (λ (p : Plan). p.outcome) c.blank-plan.ensures ∙ c.in-Ok.is)
    (c.loop-i.invariant.1.convention ∙ ap (λ (p : Plan). p.convention) c.blank-plan.ensures)
    (c.loop-i.invariant.1.ellipsis ∙ ap (λ (p : Plan). p.ellipsis) c.blank-plan.ensures)
    (c.loop-i.invariant.1.result ∙ ap (λ (p : Plan). p.result) c.blank-plan.ensures ∙ c.result_in-result.ensures)
    (c.loop-i.invariant.1.count ∙ ap (λ (p : Plan). p.count) c.blank-plan.ensures ∙ sym many)
    c.area_of.ensures)

pub returns-in-Err : goal.returns-in-Err
unfolding planned
returns-in-Err c = c.blank.ensures ∙ rw c.in-Err.is
