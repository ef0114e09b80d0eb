use Rattle.std.proofs.Common.{Err}
use mathlib.Core.Path.{ap, ◌∙◌}
use native.Mathlib.Omega.{arith}
use Prim.Native.Nat.{◌-◌}
use Rattle.sig_items.proofs.Laws.{later-later}
use Rattle.sig_items.proofs.Loop.{item-answered, fault-answered}
use Rattle.sig_signatures.proofs.Loop.{turn-full, turn-no}
use Rattle.sig_reader.proofs.Found.{noting-start, noting-more, noting-trailing, noting-end, noting-no, part-read}
use Rattle.sig_reader.proofs.argument_from.Goals as goal

pub loop-next-init : goal.loop-next-init
loop-next-init c = noting-start _ _ _ _ _ (omega arith)

pub overflow_add-result : goal.overflow_add-result
overflow_add-result c = omega arith

pub returns-then-count-eq-MAX_ARGUMENTS : goal.returns-then-count-eq-MAX_ARGUMENTS
returns-then-count-eq-MAX_ARGUMENTS c = noting-no _ _ _ _ _ _ (turn-full _ _ _ _ _ _ _ _ c.loop-next.invariant.turn c.loop-next-test.true c.if-count-eq-MAX_ARGUMENTS.true) _ _

pub overflow_add-count : goal.overflow_add-count
overflow_add-count c = omega (arith, c.loop-next.invariant.turn.few)

pub overflow_add-items : goal.overflow_add-items
overflow_add-items c = let a = item-answered _ _ _ _ _ _ _ _ _ (omega arith) (part-read _ _ _ _ c.requires.2 c.requires.1 _ c.type_of_part.ensures) c.in-Ok.is in omega (arith, c.loop-next.invariant.turn.third, c.loop-next.invariant.turn.within, a.third, a.inside, c.requires.2)

pub loop-next-smaller : goal.loop-next-smaller
loop-next-smaller c = let a = item-answered _ _ _ _ _ _ _ _ _ (omega arith) (part-read _ _ _ _ c.requires.2 c.requires.1 _ c.type_of_part.ensures) c.in-Ok.is in omega arith

pub loop-next-preserved : goal.loop-next-preserved
loop-next-preserved c = rw c.noted-found.ensures (noting-more _ _ _ _ _ _ _ _ _ c.loop-next.invariant c.loop-next-test.true c.if-count-eq-MAX_ARGUMENTS.false _ (part-read _ _ _ _ c.requires.2 c.requires.1 _ c.type_of_part.ensures) _ _ _ c.in-Ok.is)

pub overflow_add-head : goal.overflow_add-head
overflow_add-head c = omega arith

pub later_by-requires : goal.later_by-requires
later_by-requires c = let a = fault-answered _ _ _ _ _ _ _ (omega arith) (part-read _ _ _ _ c.requires.2 c.requires.1 _ c.type_of_part.ensures) c.in-Err.is in omega arith

pub returns-in-Err : goal.returns-in-Err
returns-in-Err c =
    ap Err (c.later_by.ensures ∙ later-later _ _ _)
    ∙ noting-no _ _ _ _ _ _ (turn-no _ _ _ _ _ _ _ _ c.loop-next.invariant.turn c.loop-next-test.true c.if-count-eq-MAX_ARGUMENTS.false _ (part-read _ _ _ _ c.requires.2 c.requires.1 _ c.type_of_part.ensures) _ c.in-Err.is) _ _

pub overflow_add-counted : goal.overflow_add-counted
overflow_add-counted c = omega arith

pub returns-then-next-s : goal.returns-then-next-s
returns-then-next-s c = noting-trailing _ _ _ _ _ _ _ _ _ c.loop-next.invariant c.loop-next-test.false _ c.if-next-s.true

pub returns : goal.returns
returns c = noting-end _ _ _ _ _ _ _ _ _ c.loop-next.invariant c.loop-next-test.false _ c.if-next-s.false
