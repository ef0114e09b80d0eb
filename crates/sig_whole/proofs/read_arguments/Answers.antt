use mathlib.Core.Path.{ap, ◌∙◌}
use Prim.Native.Nat.{◌-◌}
use native.Mathlib.Omega.{arith}
use Rattle.sig_items.proofs.Loop.{item-answered, fault-answered}
use Rattle.sig_items.proofs.Laws.{later-later}
use Rattle.sig_signatures.specs.Answer.{refused_signature}
use Rattle.sig_signatures.proofs.Loop.{turn-full, turn-no, tabled_start, tabled-more, tabled-trailing, tabled-end, arguments-no}
use Rattle.sig_whole.proofs.read_arguments.Goals as goal

pub loop-next-init : goal.loop-next-init
loop-next-init c = tabled_start _ _ _ _ _ c.no_arguments-arguments.ensures (omega arith)

pub overflow_add-head : goal.overflow_add-head
overflow_add-head c = omega arith

pub returns-then-count-eq-MAX_ARGUMENTS : goal.returns-then-count-eq-MAX_ARGUMENTS
returns-then-count-eq-MAX_ARGUMENTS c = c.refuse.ensures ∙ arguments-no _ _ _ _ _ (turn-full _ _ _ _ _ _ _ _ c.loop-next.invariant.turn c.loop-next-test.true c.if-count-eq-MAX_ARGUMENTS.true) _ _ _ _

pub read_item-requires : goal.read_item-requires
read_item-requires c = omega arith

pub offset_bounds-arguments-count : goal.offset_bounds-arguments-count
offset_bounds-arguments-count c = omega arith

pub bounds-arguments-count : goal.bounds-arguments-count
bounds-arguments-count c = omega arith

pub overflow_add-count : goal.overflow_add-count
overflow_add-count c = omega arith

pub overflow_add-items : goal.overflow_add-items
overflow_add-items c = let a = item-answered _ _ _ _ _ _ _ _ _ (omega arith) c.read_item.ensures c.in-Ok.is in omega arith

pub loop-next-smaller : goal.loop-next-smaller
loop-next-smaller c = let a = item-answered _ _ _ _ _ _ _ _ _ (omega arith) c.read_item.ensures c.in-Ok.is in omega arith

pub loop-next-preserved : goal.loop-next-preserved
loop-next-preserved c = tabled-more _ _ _ _ _ _ _ _ c.loop-next.invariant c.loop-next-test.true c.if-count-eq-MAX_ARGUMENTS.false _ c.read_item.ensures _ _ _ c.in-Ok.is

pub overflow_add-head-in-Err : goal.overflow_add-head-in-Err
overflow_add-head-in-Err c = omega arith

pub later_by-requires : goal.later_by-requires
later_by-requires c = let a = fault-answered _ _ _ _ _ _ _ (omega arith) c.read_item.ensures c.in-Err.is in omega arith

pub returns-in-Err : goal.returns-in-Err
returns-in-Err c = c.refuse-in-Err.ensures ∙ ap refused_signature (c.later_by.ensures ∙ later-later _ _ _) ∙ arguments-no _ _ _ _ _ (turn-no _ _ _ _ _ _ _ _ c.loop-next.invariant.turn c.loop-next-test.true c.if-count-eq-MAX_ARGUMENTS.false _ c.read_item.ensures _ c.in-Err.is) _ _ _ _

pub overflow_add-counted : goal.overflow_add-counted
overflow_add-counted c = omega arith

pub returns-then-next-s : goal.returns-then-next-s
returns-then-next-s c = c.refuse-then-next-s.ensures ∙ tabled-trailing _ _ _ _ _ _ _ _ c.loop-next.invariant c.loop-next-test.false _ _ _ c.if-next-s.true

pub returns : goal.returns
returns c = tabled-end _ _ _ _ _ _ _ _ c.loop-next.invariant c.loop-next-test.false _ _ _ c.if-next-s.false
