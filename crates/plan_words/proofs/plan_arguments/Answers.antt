use mathlib.Core.Path.{refl, ap, ◌∙◌}
use native.Mathlib.Omega.{arith}
use Prim.Native.Nat.{◌+◌, ◌-◌}
use Rattle.base_words.specs.Splice.{overlay_whole}
use Rattle.sig_items.specs.declared.Fault.{Fault}
use Rattle.sig_items.proofs.Laws.{later-later}
use Rattle.sig_items.proofs.Loop.{item-answered, fault-answered}
use Rattle.sig_signatures.proofs.Loop.{turn-full, turn-no}
use Rattle.plan_places.specs.Step.{placed}
use Rattle.plan_places.proofs.Bounds.{rules-lawful}
use Rattle.plan_places.proofs.Marked.{lawful-marked}
use Rattle.plan_plans.specs.Plan.{refused_plan}
use Rattle.plan_plans.proofs.Fold.{reached-roomy}
use Rattle.plan_words.specs.Planned.{planned_of}
use Rattle.plan_words.proofs.Turns.{keeping_start, keeping-more, keeping-length, plan-no, rows-no, plan-trailing, rows-trailing, plan-end, rows_end, plan-unclear, rows-unclear}
use Rattle.plan_words.proofs.plan_arguments.Goals as goal

pub loop-next-init : goal.loop-next-init
loop-next-init c = keeping_start _ _ _ _ _ _ _ _ (c.start-c.ensures ∙ rw c.hidden_in-hidden.ensures refl) (omega arith)

pub overflow_add-earlier : goal.overflow_add-earlier
overflow_add-earlier c = omega (arith, c.loop-next.invariant.sizes.turn.third, c.loop-next.invariant.sizes.turn.within)

pub shape_of-kept-then-count-eq-MAX_ARGUMENTS : goal.shape_of-kept-then-count-eq-MAX_ARGUMENTS
shape_of-kept-then-count-eq-MAX_ARGUMENTS c = keeping-length _ _ _ _ _ _ _ _ _ _ _ _ _ _ c.loop-next.invariant

pub returns-then-count-eq-MAX_ARGUMENTS : goal.returns-then-count-eq-MAX_ARGUMENTS
returns-then-count-eq-MAX_ARGUMENTS c =
    let full = turn-full _ _ _ _ _ _ _ _ c.loop-next.invariant.sizes.turn c.loop-next-test.true c.if-count-eq-MAX_ARGUMENTS.true in
    record {
      value = c.no_plan.ensures ∙ plan-no _ _ _ _ _ _ _ _ full;
      places_after = rows-no _ _ _ _ _ _ c.args.earlier _ full _;
    }

pub read_item-requires : goal.read_item-requires
read_item-requires c = omega arith

pub unclear_after-unclear-requires : goal.unclear_after-unclear-requires
unclear_after-unclear-requires c =
    (reached-roomy _ _ _ _ (omega (arith, c.loop-next.invariant.sizes.turn.few)) c.loop-next.invariant.sizes.reached, omega (arith, c.loop-next.invariant.sizes.turn.few))

pub step-p-requires : goal.step-p-requires
step-p-requires c =
    let a = item-answered _ _ _ _ _ _ _ _ _ (omega arith) c.read_item.ensures c.in-Ok.is in (
      rw (c.with_ellipsis-rules.ensures, c.call_rules_of.ensures) (lawful-marked _ _ (rules-lawful c.args.convention)),
      reached-roomy _ _ _ _ (omega (arith, c.loop-next.invariant.sizes.turn.few)) c.loop-next.invariant.sizes.reached,
      rw c.size_of-size.ensures a.sized.small,
    )

pub keep_entry-requires : goal.keep_entry-requires
keep_entry-requires c =
    let a = item-answered _ _ _ _ _ _ _ _ _ (omega arith) c.read_item.ensures c.in-Ok.is in
    let room = c.requires.4 (c.loop-next.count + 1) (omega (arith, c.loop-next.invariant.sizes.turn.few, c.if-count-eq-MAX_ARGUMENTS.false)) (omega (arith, c.loop-next.invariant.sizes.turn.apart, a.on, a.inside)) in (
      omega (arith, room, keeping-length _ _ _ _ _ _ _ _ _ _ _ _ _ _ c.loop-next.invariant),
      omega (arith, c.loop-next-test.true, c.requires.1, c.requires.2),
      omega (arith, a.sized.small, c.size_of-size.ensures),
      omega (arith, c.loop-next.invariant.sizes.reached.small, c.loop-next.invariant.sizes.turn.few),
    )

pub overflow_add-values : goal.overflow_add-values
overflow_add-values c =
    let a = item-answered _ _ _ _ _ _ _ _ _ (omega arith) c.read_item.ensures c.in-Ok.is in
    omega (arith, a.sized.small, c.loop-next.invariant.sizes.reached.small, c.loop-next.invariant.sizes.turn.few, c.size_of-size.ensures)

pub overflow_add-count : goal.overflow_add-count
overflow_add-count c = omega (arith, c.loop-next.invariant.sizes.turn.few)

pub overflow_add-items : goal.overflow_add-items
overflow_add-items c =
    let a = item-answered _ _ _ _ _ _ _ _ _ (omega arith) c.read_item.ensures c.in-Ok.is in
    omega (arith, c.loop-next.invariant.sizes.turn.third, c.loop-next.invariant.sizes.turn.within, a.third, a.inside, c.requires.1, c.requires.2)

pub loop-next-smaller : goal.loop-next-smaller
loop-next-smaller c =
    let a = item-answered _ _ _ _ _ _ _ _ _ (omega arith) c.read_item.ensures c.in-Ok.is in
    omega (arith, a.on, a.inside)

pub loop-next-preserved : goal.loop-next-preserved
unfolding placed
loop-next-preserved c =
    rw (c.keep_entry.ensures, c.step-p.ensures, c.unclear_after-unclear.ensures, c.size_of-size.ensures, c.with_ellipsis-rules.ensures, c.call_rules_of.ensures)
    (keeping-more _ _ _ _ _ _ _ _ _ _ _ _ _ _ c.loop-next.invariant c.loop-next-test.true c.if-count-eq-MAX_ARGUMENTS.false _ c.read_item.ensures _ _ _ c.in-Ok.is)

pub overflow_add-earlier-in-Err : goal.overflow_add-earlier-in-Err
overflow_add-earlier-in-Err c = omega (arith, c.loop-next.invariant.sizes.turn.third, c.loop-next.invariant.sizes.turn.within)

pub later_by-requires : goal.later_by-requires
later_by-requires c =
    let a = fault-answered _ _ _ _ _ _ _ (omega arith) c.read_item.ensures c.in-Err.is in
    omega (arith, a, c.loop-next.invariant.sizes.turn.third, c.loop-next.invariant.sizes.turn.within)

pub shape_of-kept-in-Err : goal.shape_of-kept-in-Err
shape_of-kept-in-Err c = keeping-length _ _ _ _ _ _ _ _ _ _ _ _ _ _ c.loop-next.invariant

pub returns-in-Err : goal.returns-in-Err
returns-in-Err c =
    let stopped = turn-no _ _ _ _ _ _ _ _ c.loop-next.invariant.sizes.turn c.loop-next-test.true c.if-count-eq-MAX_ARGUMENTS.false _ c.read_item.ensures _ c.in-Err.is in record {
      value = c.no_plan-in-Err.ensures ∙ ap (λ (f : Fault). planned_of (refused_plan f)) (c.later_by.ensures ∙ later-later _ _ _) ∙ plan-no _ _ _ _ _ _ _ _ stopped;
      places_after = rows-no _ _ _ _ _ _ c.args.earlier _ stopped _;
    }

pub overflow_add-counted : goal.overflow_add-counted
overflow_add-counted c = omega (arith, c.loop-next.invariant.sizes.turn.third, c.loop-next.invariant.sizes.turn.within)

pub shape_of-kept-then-next-sig : goal.shape_of-kept-then-next-sig
shape_of-kept-then-next-sig c = keeping-length _ _ _ _ _ _ _ _ _ _ _ _ _ _ c.loop-next.invariant

pub returns-then-next-sig : goal.returns-then-next-sig
returns-then-next-sig c = record {
  value = c.no_plan-then-next-sig.ensures ∙ plan-trailing _ _ _ _ _ _ _ _ _ _ _ _ _ _ _ c.loop-next.invariant c.loop-next-test.false c.if-next-sig.true;
  places_after = rows-trailing _ _ _ _ _ _ c.args.earlier _ _ _ _ _ _ _ _ c.loop-next.invariant c.loop-next-test.false c.if-next-sig.true _;
}

pub overflow_sub-unclear : goal.overflow_sub-unclear
overflow_sub-unclear c = omega arith

pub shape_of-kept-then-unclear-ne0 : goal.shape_of-kept-then-unclear-ne0
shape_of-kept-then-unclear-ne0 c = keeping-length _ _ _ _ _ _ _ _ _ _ _ _ _ _ c.loop-next.invariant

pub returns-then-unclear-ne0 : goal.returns-then-unclear-ne0
returns-then-unclear-ne0 c = record {
  value = c.no_plan-then-unclear-ne0.ensures ∙ ap (λ (f : Fault). planned_of (refused_plan f)) c.unclear_fault.ensures ∙ plan-unclear _ _ _ _ _ _ _ _ _ _ _ _ _ _ _ c.loop-next.invariant c.loop-next-test.false c.if-next-sig.false (omega (arith, c.if-unclear-ne0.true));
  places_after = rows-unclear _ _ _ _ _ _ c.args.earlier _ _ _ _ _ _ _ _ c.loop-next.invariant c.loop-next-test.false c.if-next-sig.false (omega (arith, c.if-unclear-ne0.true)) _;
}

pub overflow_mul-count : goal.overflow_mul-count
overflow_mul-count c = omega (arith, c.loop-next.invariant.sizes.turn.few)

pub write_table-requires : goal.write_table-requires
write_table-requires c =
    let room = c.requires.4 c.loop-next.count (omega (arith, c.loop-next.invariant.sizes.turn.few)) (omega (arith, c.loop-next.invariant.sizes.turn.apart, c.loop-next.invariant.sizes.turn.within)) in
    omega (arith, room, keeping-length _ _ _ _ _ _ _ _ _ _ _ _ _ _ c.loop-next.invariant)

pub shape_of-kept : goal.shape_of-kept
shape_of-kept c = keeping-length _ _ _ _ _ _ _ _ _ _ _ _ _ _ c.loop-next.invariant

pub returns : goal.returns
returns c =
    let room = c.requires.4 c.loop-next.count (omega (arith, c.loop-next.invariant.sizes.turn.few)) (omega (arith, c.loop-next.invariant.sizes.turn.apart, c.loop-next.invariant.sizes.turn.within)) in record {
      value = rw (c.area_of-area.ensures, c.result_words-result.ensures) (plan-end _ _ _ _ _ _ _ _ _ _ _ _ _ _ _ c.loop-next.invariant c.loop-next-test.false c.if-next-sig.false (omega (arith, c.if-unclear-ne0.false)));
      places_after = c.write_table.ensures ∙ ap (overlay_whole c.args.places.now) (rows_end _ _ _ _ _ _ c.args.earlier _ _ _ _ _ _ _ _ c.loop-next.invariant c.loop-next-test.false c.if-next-sig.false (omega (arith, c.if-unclear-ne0.false)) room);
    }
