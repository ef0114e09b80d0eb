use native.Mathlib.Omega.{arith}
use Prim.Native.Nat.{◌-◌}
use mathlib.Core.Path.{ap, ◌∙◌}
use Rattle.sig_items.specs.declared.Fault.{Fault}
use Rattle.sig_items.proofs.Laws.{later-later}
use Rattle.sig_items.proofs.Loop.{item-answered, fault-answered}
use Rattle.sig_signatures.proofs.Loop.{turn-full, turn-no}
use Rattle.plan_places.proofs.Bounds.{rules-lawful}
use Rattle.plan_plans.specs.Plan.{refused_plan, measure_of}
use Rattle.plan_plans.proofs.Fold.{reached-roomy}
use Rattle.plan_plans.proofs.Measures.{measuring-start, measure-no, measure-trailing, measure-end}
use Rattle.plan_measuring.proofs.Sizing.{sizing-more}
use Rattle.plan_measuring.proofs.measure_plain.Goals as goal

pub loop-place-init : goal.loop-place-init
loop-place-init c = (0, rw (c.start-c.ensures, c.call_rules_of-rules.ensures) (measuring-start _ _ _ _ _ _ (rules-lawful c.args.convention) (omega arith)))

pub overflow_add-earlier : goal.overflow_add-earlier
overflow_add-earlier c = omega arith

pub returns-then-count-eq-MAX_ARGUMENTS : goal.returns-then-count-eq-MAX_ARGUMENTS
returns-then-count-eq-MAX_ARGUMENTS c =
    let full = turn-full _ _ _ _ _ _ _ _ c.loop-place.invariant.1.so_far.turn c.loop-place-test.true c.if-count-eq-MAX_ARGUMENTS.true in
    c.no_measure.ensures ∙ measure-no _ _ _ _ _ _ _ full

pub read_item-requires : goal.read_item-requires
read_item-requires c = omega arith

pub advance-c-requires : goal.advance-c-requires
advance-c-requires c =
    let a = item-answered _ _ _ _ _ _ _ _ _ (omega arith) c.read_item.ensures c.in-Ok.is in (
      rw c.call_rules_of-rules.ensures (rules-lawful c.args.convention),
      reached-roomy _ _ _ _ (omega (arith, c.loop-place.invariant.1.so_far.turn.few)) c.loop-place.invariant.1.so_far.reached,
      rw c.size_of-size.ensures a.sized.small,
    )

pub overflow_add-values : goal.overflow_add-values
overflow_add-values c =
    let a = item-answered _ _ _ _ _ _ _ _ _ (omega arith) c.read_item.ensures c.in-Ok.is in
    omega (arith, a.sized.small, c.loop-place.invariant.1.so_far.reached.small, c.loop-place.invariant.1.so_far.turn.few, c.size_of-size.ensures)

pub overflow_add-count : goal.overflow_add-count
overflow_add-count c = omega (arith, c.loop-place.invariant.1.so_far.turn.few)

pub overflow_add-items : goal.overflow_add-items
overflow_add-items c = let a = item-answered _ _ _ _ _ _ _ _ _ (omega arith) c.read_item.ensures c.in-Ok.is in omega arith

pub loop-place-smaller : goal.loop-place-smaller
loop-place-smaller c = let a = item-answered _ _ _ _ _ _ _ _ _ (omega arith) c.read_item.ensures c.in-Ok.is in omega arith

pub loop-place-preserved : goal.loop-place-preserved
loop-place-preserved c =
    rw (c.advance-c.ensures, c.size_of-size.ensures, c.call_rules_of-rules.ensures)
    (sizing-more _ _ _ _ _ _ _ _ _ _ _ (rw c.call_rules_of-rules.ensures at c.loop-place.invariant) (rules-lawful c.args.convention) c.loop-place-test.true c.if-count-eq-MAX_ARGUMENTS.false _ c.read_item.ensures _ _ _ c.in-Ok.is)

pub overflow_add-earlier-in-Err : goal.overflow_add-earlier-in-Err
overflow_add-earlier-in-Err c = omega arith

pub later_by-requires : goal.later_by-requires
later_by-requires c = let a = fault-answered _ _ _ _ _ _ _ (omega arith) c.read_item.ensures c.in-Err.is in omega arith

pub returns-in-Err : goal.returns-in-Err
returns-in-Err c =
    let refused-by = turn-no _ _ _ _ _ _ _ _ c.loop-place.invariant.1.so_far.turn c.loop-place-test.true c.if-count-eq-MAX_ARGUMENTS.false _ c.read_item.ensures _ c.in-Err.is in
    c.no_measure-in-Err.ensures ∙ ap (λ (f : Fault). measure_of (refused_plan f)) (c.later_by.ensures ∙ later-later _ _ _) ∙ measure-no _ _ _ _ _ _ _ refused-by

pub overflow_add-counted : goal.overflow_add-counted
overflow_add-counted c = omega arith

pub returns-then-place-s : goal.returns-then-place-s
returns-then-place-s c =
    let m = rw (c.call_rules_of-rules.ensures, c.start-c.ensures, c.hidden_in-hidden.ensures) at c.loop-place.invariant.1 in
    c.no_measure-then-place-s.ensures ∙ measure-trailing _ _ _ _ _ _ _ _ _ _ _ _ m c.loop-place-test.false c.if-place-s.true

pub returns : goal.returns
returns c =
    let m = rw (c.call_rules_of-rules.ensures, c.start-c.ensures, c.hidden_in-hidden.ensures) at c.loop-place.invariant.1 in
    rw c.area_of-area.ensures (measure-end _ _ _ _ _ _ _ _ _ _ _ _ m c.loop-place-test.false c.if-place-s.false)
