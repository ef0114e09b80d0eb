use native.Mathlib.Omega.{arith}
use Prim.Native.Nat.{◌-◌}
use mathlib.Core.Path.{ap, ◌∙◌}
use Rattle.sig_items.specs.declared.Fault.{Fault}
use Rattle.sig_items.proofs.Laws.{later-later}
use Rattle.sig_items.proofs.Loop.{item-answered, fault-answered}
use Rattle.sig_signatures.proofs.Loop.{turn-full, turn-no}
use Rattle.plan_places.proofs.Bounds.{rules-lawful}
use Rattle.plan_plans.specs.Plan.{refused_plan, measure_of}
use Rattle.plan_plans.proofs.Fold.{reached-roomy}
use Rattle.plan_plans.proofs.Measures.{measuring-start, measuring-more, measure-no, measure-trailing, measure-end, unclear-no, unclear-trailing, unclear-end}
use Rattle.plan_measuring.proofs.measure_arguments.Goals as goal

pub loop-next-init : goal.loop-next-init
loop-next-init c = rw (c.start-c.ensures, c.call_rules_of-rules.ensures) (measuring-start _ _ _ _ _ _ (rules-lawful c.args.convention) (omega arith))

pub overflow_add-earlier : goal.overflow_add-earlier
overflow_add-earlier c = omega arith

pub returns-then-count-eq-MAX_ARGUMENTS : goal.returns-then-count-eq-MAX_ARGUMENTS
returns-then-count-eq-MAX_ARGUMENTS c =
    let full = turn-full _ _ _ _ _ _ _ _ c.loop-next.invariant.so_far.turn c.loop-next-test.true c.if-count-eq-MAX_ARGUMENTS.true in
    (c.not_passed.ensures.0 ∙ measure-no _ _ _ _ _ _ _ full, c.not_passed.ensures.1 ∙ unclear-no _ _ _ _ _ c.args.earlier _ full)

pub read_item-requires : goal.read_item-requires
read_item-requires c = omega arith

pub unclear_after-unclear-requires : goal.unclear_after-unclear-requires
unclear_after-unclear-requires c =
    (reached-roomy _ _ _ _ (omega (arith, c.loop-next.invariant.so_far.turn.few)) c.loop-next.invariant.so_far.reached, omega (arith, c.loop-next.invariant.so_far.turn.few))

pub advance-c-requires : goal.advance-c-requires
advance-c-requires c =
    let a = item-answered _ _ _ _ _ _ _ _ _ (omega arith) c.read_item.ensures c.in-Ok.is in (
      rw c.call_rules_of-rules.ensures (rules-lawful c.args.convention),
      reached-roomy _ _ _ _ (omega (arith, c.loop-next.invariant.so_far.turn.few)) c.loop-next.invariant.so_far.reached,
      rw c.size_of-bytes.ensures a.sized.small,
    )

pub overflow_add-values : goal.overflow_add-values
overflow_add-values c =
    let a = item-answered _ _ _ _ _ _ _ _ _ (omega arith) c.read_item.ensures c.in-Ok.is in
    omega (arith, a.sized.small, c.loop-next.invariant.so_far.reached.small, c.loop-next.invariant.so_far.turn.few, c.size_of-bytes.ensures)

pub overflow_add-count : goal.overflow_add-count
overflow_add-count c = omega (arith, c.loop-next.invariant.so_far.turn.few)

pub overflow_add-items : goal.overflow_add-items
overflow_add-items c = let a = item-answered _ _ _ _ _ _ _ _ _ (omega arith) c.read_item.ensures c.in-Ok.is in omega arith

pub loop-next-smaller : goal.loop-next-smaller
loop-next-smaller c = let a = item-answered _ _ _ _ _ _ _ _ _ (omega arith) c.read_item.ensures c.in-Ok.is in omega arith

pub loop-next-preserved : goal.loop-next-preserved
loop-next-preserved c =
    rw (c.advance-c.ensures, c.unclear_after-unclear.ensures, c.size_of-bytes.ensures, c.call_rules_of-rules.ensures)
    (measuring-more _ _ _ _ _ _ _ _ _ _ _ _ (rw c.call_rules_of-rules.ensures at c.loop-next.invariant) (rules-lawful c.args.convention) c.loop-next-test.true c.if-count-eq-MAX_ARGUMENTS.false _ c.read_item.ensures _ _ _ c.in-Ok.is)

pub overflow_add-earlier-in-Err : goal.overflow_add-earlier-in-Err
overflow_add-earlier-in-Err c = omega arith

pub later_by-requires : goal.later_by-requires
later_by-requires c = let a = fault-answered _ _ _ _ _ _ _ (omega arith) c.read_item.ensures c.in-Err.is in omega arith

pub returns-in-Err : goal.returns-in-Err
returns-in-Err c =
    let refused-by = turn-no _ _ _ _ _ _ _ _ c.loop-next.invariant.so_far.turn c.loop-next-test.true c.if-count-eq-MAX_ARGUMENTS.false _ c.read_item.ensures _ c.in-Err.is in (
      c.not_passed-in-Err.ensures.0 ∙ ap (λ (f : Fault). measure_of (refused_plan f)) (c.later_by.ensures ∙ later-later _ _ _) ∙ measure-no _ _ _ _ _ _ _ refused-by,
      c.not_passed-in-Err.ensures.1 ∙ unclear-no _ _ _ _ _ c.args.earlier _ refused-by,
    )

pub overflow_add-counted : goal.overflow_add-counted
overflow_add-counted c = omega arith

pub returns-then-next-s : goal.returns-then-next-s
returns-then-next-s c =
    let m = rw (c.call_rules_of-rules.ensures, c.start-c.ensures, c.hidden_in-hidden.ensures) at c.loop-next.invariant in (
      c.not_passed-then-next-s.ensures.0 ∙ measure-trailing _ _ _ _ _ _ _ _ _ _ _ _ m c.loop-next-test.false c.if-next-s.true,
      c.not_passed-then-next-s.ensures.1 ∙ unclear-trailing _ _ _ _ _ c.args.earlier _ _ _ _ _ _ m c.loop-next-test.false c.if-next-s.true,
    )

pub returns : goal.returns
returns c =
    let m = rw (c.call_rules_of-rules.ensures, c.start-c.ensures, c.hidden_in-hidden.ensures) at c.loop-next.invariant in (
      rw c.area_of-area.ensures (measure-end _ _ _ _ _ _ _ _ _ _ _ _ m c.loop-next-test.false c.if-next-s.false),
      unclear-end _ _ _ _ _ c.args.earlier _ _ _ _ _ _ m c.loop-next-test.false c.if-next-s.false,
    )
