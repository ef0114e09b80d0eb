use native.Mathlib.Omega.{arith}
use Prim.Native.Nat.{◌-◌}
use mathlib.Core.Path.{ap, ◌∙◌}
use Rattle.sig_items.specs.declared.Fault.{Fault}
use Rattle.sig_items.proofs.Laws.{later-later}
use Rattle.sig_items.proofs.Loop.{item-answered, fault-answered}
use Rattle.sig_signatures.proofs.Loop.{turn-full, turn-no}
use Rattle.plan_places.specs.Step.{placed}
use Rattle.plan_plans.specs.Plan.{refused_plan, measure_of}
use Rattle.plan_plans.proofs.Fold.{reached-roomy}
use Rattle.plan_plans.proofs.Measures.{measure-no, measure-trailing, measure-end, unclear-no, unclear-trailing, unclear-end}
use Rattle.call_kept.proofs.Codes.{sized-codable}
use Rattle.call_arguments.proofs.Kept.{lawful-in, keeping_start, keeping-room, keeping-more, kept-no, kept-trailing, kept-end}
use Rattle.call_arguments.proofs.keep_arguments.Goals as goal

pub loop-next-init : goal.loop-next-init
loop-next-init c = keeping_start _ _ _ _ _ _ c.args.head.result _ c.first_cursor-c.ensures (omega arith)

pub overflow_add-head : goal.overflow_add-head
overflow_add-head c = omega (arith, c.loop-next.invariant.sizes.so_far.turn)

pub shape_of-kept-then-count-eq-MAX_ARGUMENTS : goal.shape_of-kept-then-count-eq-MAX_ARGUMENTS
shape_of-kept-then-count-eq-MAX_ARGUMENTS c = c.loop-next.invariant.long

pub returns-then-count-eq-MAX_ARGUMENTS : goal.returns-then-count-eq-MAX_ARGUMENTS
returns-then-count-eq-MAX_ARGUMENTS c =
    let full = turn-full _ _ _ _ _ _ _ _ c.loop-next.invariant.sizes.so_far.turn c.loop-next-test.true c.if-count-eq-MAX_ARGUMENTS.true in record {
      measured_value = (c.none_kept.ensures.0 ∙ measure-no _ _ _ _ _ _ _ full, c.none_kept.ensures.1 ∙ unclear-no _ _ _ _ _ c.args.head.earlier _ full);
      kept_with = kept-no _ _ _ _ _ _ _ full _ _;
    }

pub read_item-requires : goal.read_item-requires
read_item-requires c = omega (arith, c.loop-next.invariant.sizes.so_far.turn)

pub unclear_after-unclear-requires : goal.unclear_after-unclear-requires
unclear_after-unclear-requires c =
    (reached-roomy _ _ _ _ (omega (arith, c.loop-next.invariant.sizes.so_far.turn.few)) c.loop-next.invariant.sizes.so_far.reached, omega (arith, c.loop-next.invariant.sizes.so_far.turn.few))

pub step-p-requires : goal.step-p-requires
step-p-requires c =
    let a = item-answered _ _ _ _ _ _ _ _ _ (omega arith) c.read_item.ensures c.in-Ok.is in (
      rw c.rules_in-rules.ensures (lawful-in c.args.head.convention c.args.head.ellipsis),
      reached-roomy _ _ _ _ (omega (arith, c.loop-next.invariant.sizes.so_far.turn.few)) c.loop-next.invariant.sizes.so_far.reached,
      rw c.size_of-bytes.ensures a.sized.small,
    )

pub keep-requires : goal.keep-requires
keep-requires c =
    let a = item-answered _ _ _ _ _ _ _ _ _ (omega arith) c.read_item.ensures c.in-Ok.is in (
      keeping-room _ _ _ _ _ _ c.requires.4 _ _ _ _ _ _ _ _ c.loop-next.invariant c.loop-next-test.true c.if-count-eq-MAX_ARGUMENTS.false _ c.read_item.ensures _ _ _ c.in-Ok.is,
      sized-codable _ _ a.sized,
    )

pub overflow_add-values : goal.overflow_add-values
overflow_add-values c =
    let a = item-answered _ _ _ _ _ _ _ _ _ (omega arith) c.read_item.ensures c.in-Ok.is in
    omega (arith, a.sized.small, c.loop-next.invariant.sizes.so_far.reached.small, c.loop-next.invariant.sizes.so_far.turn.few, c.size_of-bytes.ensures)

pub overflow_add-count : goal.overflow_add-count
overflow_add-count c = omega (arith, c.loop-next.invariant.sizes.so_far.turn.few)

pub overflow_add-items : goal.overflow_add-items
overflow_add-items c = let a = item-answered _ _ _ _ _ _ _ _ _ (omega arith) c.read_item.ensures c.in-Ok.is in omega (arith, a.third, a.inside, c.loop-next.invariant.sizes.so_far.turn)

pub loop-next-smaller : goal.loop-next-smaller
loop-next-smaller c = let a = item-answered _ _ _ _ _ _ _ _ _ (omega arith) c.read_item.ensures c.in-Ok.is in omega (arith, a.on, a.inside, c.loop-next-test.true)

pub loop-next-preserved : goal.loop-next-preserved
unfolding placed
loop-next-preserved c =
    rw (c.keep.ensures, c.step-p.ensures, c.unclear_after-unclear.ensures, c.size_of-bytes.ensures, c.rules_in-rules.ensures)
    (keeping-more _ _ _ _ _ _ c.requires.4 _ _ _ _ _ _ _ _ c.loop-next.invariant c.loop-next-test.true c.if-count-eq-MAX_ARGUMENTS.false _ c.read_item.ensures _ _ _ c.in-Ok.is)

pub overflow_add-head-in-Err : goal.overflow_add-head-in-Err
overflow_add-head-in-Err c = omega (arith, c.loop-next.invariant.sizes.so_far.turn)

pub later_by-requires : goal.later_by-requires
later_by-requires c = let a = fault-answered _ _ _ _ _ _ _ c.loop-next.invariant.sizes.so_far.turn.within c.read_item.ensures c.in-Err.is in omega (arith, a, c.loop-next.invariant.sizes.so_far.turn)

pub shape_of-kept-in-Err : goal.shape_of-kept-in-Err
shape_of-kept-in-Err c = c.loop-next.invariant.long

pub returns-in-Err : goal.returns-in-Err
returns-in-Err c =
    let refused-by = turn-no _ _ _ _ _ _ _ _ c.loop-next.invariant.sizes.so_far.turn c.loop-next-test.true c.if-count-eq-MAX_ARGUMENTS.false _ c.read_item.ensures _ c.in-Err.is in record {
      measured_value = (
        c.none_kept-in-Err.ensures.0 ∙ ap (λ (f : Fault). measure_of (refused_plan f)) (c.later_by.ensures ∙ later-later _ _ _) ∙ measure-no _ _ _ _ _ _ _ refused-by,
        c.none_kept-in-Err.ensures.1 ∙ unclear-no _ _ _ _ _ c.args.head.earlier _ refused-by,
      );
      kept_with = kept-no _ _ _ _ _ _ _ refused-by _ _;
    }

pub overflow_add-counted : goal.overflow_add-counted
overflow_add-counted c = omega (arith, c.loop-next.invariant.sizes.so_far.turn)

pub shape_of-kept-then-next-s : goal.shape_of-kept-then-next-s
shape_of-kept-then-next-s c = c.loop-next.invariant.long

pub returns-then-next-s : goal.returns-then-next-s
returns-then-next-s c =
    let m = rw c.first_cursor-c.ensures at c.loop-next.invariant in
    record {
      measured_value = (
        c.none_kept-then-next-s.ensures.0 ∙ measure-trailing _ _ _ _ _ _ _ _ _ _ _ _ m.sizes c.loop-next-test.false c.if-next-s.true,
        c.none_kept-then-next-s.ensures.1 ∙ unclear-trailing _ _ _ _ _ c.args.head.earlier _ _ _ _ _ _ m.sizes c.loop-next-test.false c.if-next-s.true,
      );
      kept_with = kept-trailing _ _ _ _ _ _ _ c.requires.4 _ _ _ _ _ _ _ m c.loop-next-test.false c.if-next-s.true _;
    }

pub shape_of-kept : goal.shape_of-kept
shape_of-kept c = c.loop-next.invariant.long

pub returns : goal.returns
returns c =
    let m = rw c.first_cursor-c.ensures at c.loop-next.invariant in
    record {
      measured_value = (
        rw c.area_of-area.ensures (measure-end _ _ _ _ _ _ _ _ _ _ _ _ m.sizes c.loop-next-test.false c.if-next-s.false),
        unclear-end _ _ _ _ _ c.args.head.earlier _ _ _ _ _ _ m.sizes c.loop-next-test.false c.if-next-s.false,
      );
      kept_with = kept-end _ _ _ _ _ _ _ c.requires.4 _ _ _ _ _ _ _ m c.loop-next-test.false;
    }
