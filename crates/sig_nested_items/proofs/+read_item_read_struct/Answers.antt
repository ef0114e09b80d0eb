use Rattle.std.proofs.Common.{Err}
use Prim.Native.Nat.{◌-◌}
use mathlib.Core.Path.{sym, ap, ◌∙◌}
use native.Mathlib.Omega.{arith}
use Rattle.sig_items.specs.Answer.{item_answer}
use Rattle.sig_items.proofs.Laws.{struct-deep, struct-empty, item_refused, item-integer, item-float, item-struct}
use Rattle.sig_items.proofs.Sound.{body-framed}
use Rattle.sig_items.proofs.Loop.{turn-start, turn_more, turn-no, turn_end, item-answered, fault-answered}
use Rattle.sig_nested_items.proofs.+read_item_read_struct.Goals as goal

pub read_item-read_body-requires : goal.read_item-read_body-requires
read_item-read_body-requires t c = omega arith

pub read_item-bounds-s-at : goal.read_item-bounds-s-at
read_item-bounds-s-at t c = let f = body-framed _ _ _ _ _ _ (sym c.read_body.ensures ∙ c.in-Ok.is) in omega arith

pub read_item-read_integer-requires : goal.read_item-read_integer-requires
read_item-read_integer-requires t c = let f = body-framed _ _ _ _ _ _ (sym c.read_body.ensures ∙ c.in-Ok.is) in omega arith

pub read_item-returns-in-16 : goal.read_item-returns-in-16
read_item-returns-in-16 t c = c.read_integer.ensures ∙ sym (ap (item_answer _) (item-integer _ _ _ _ _ _ (sym c.read_body.ensures ∙ c.in-Ok.is) c.in-16.is))

pub read_item-read_float-requires : goal.read_item-read_float-requires
read_item-read_float-requires t c = let f = body-framed _ _ _ _ _ _ (sym c.read_body.ensures ∙ c.in-Ok.is) in omega arith

pub read_item-returns-in-17 : goal.read_item-returns-in-17
read_item-returns-in-17 t c = c.read_float.ensures ∙ sym (ap (item_answer _) (item-float _ _ _ _ _ _ (sym c.read_body.ensures ∙ c.in-Ok.is) c.in-17.is))

pub read_item-read_struct-requires : goal.read_item-read_struct-requires
read_item-read_struct-requires t c = let f = body-framed _ _ _ _ _ _ (sym c.read_body.ensures ∙ c.in-Ok.is) in (omega arith, omega arith)

pub read_item-returns-in-Err : goal.read_item-returns-in-Err
read_item-returns-in-Err t c = ap Err c.fault_here.ensures ∙ sym (ap (item_answer _) (item_refused _ _ _ _ _ _ (sym c.read_body.ensures ∙ c.in-Err.is)))

pub read_item-returns-in_default : goal.read_item-returns-in_default
read_item-returns-in_default t c = c.read_struct.ensures ∙ sym (ap (item_answer _) (item-struct _ _ _ _ _ _ (sym c.read_body.ensures ∙ c.in-Ok.is) (omega arith) (omega arith)))

pub read_struct-returns-then-depth-eq0 : goal.read_struct-returns-then-depth-eq0
read_struct-returns-then-depth-eq0 t c = ap Err c.fault_here.ensures ∙ sym (ap (item_answer _) (struct-deep _ _ _ _ _ c.if-depth-eq0.true))

pub read_struct-overflow_sub-end : goal.read_struct-overflow_sub-end
read_struct-overflow_sub-end t c = omega arith

pub read_struct-returns-then-end-at-eq3 : goal.read_struct-returns-then-end-at-eq3
read_struct-returns-then-end-at-eq3 t c = ap Err c.fault_here-then-end-at-eq3.ensures ∙ sym (ap (item_answer _) (struct-empty _ _ _ _ _ (omega arith) (omega arith)))

pub read_struct-overflow_add-next : goal.read_struct-overflow_add-next
read_struct-overflow_add-next t c = omega arith

pub read_struct-loop-next-init : goal.read_struct-loop-next-init
read_struct-loop-next-init t c = turn-start _ _ _ _ _ _ c.no_fields-fields.ensures (omega arith)

pub read_struct-overflow_sub-depth : goal.read_struct-overflow_sub-depth
read_struct-overflow_sub-depth t c = omega arith

pub read_struct-read_item-requires : goal.read_struct-read_item-requires
read_struct-read_item-requires t c = (omega arith, omega arith)

pub read_struct-with_field-fields-requires : goal.read_struct-with_field-fields-requires
read_struct-with_field-fields-requires t c = let a = item-answered _ _ _ _ _ _ _ _ _ (omega arith) c.read_item.ensures c.in-Ok.is in (omega arith, a.sized)

pub read_struct-overflow_add-items : goal.read_struct-overflow_add-items
read_struct-overflow_add-items t c = let a = item-answered _ _ _ _ _ _ _ _ _ (omega arith) c.read_item.ensures c.in-Ok.is in omega arith

pub read_struct-loop-next-smaller : goal.read_struct-loop-next-smaller
read_struct-loop-next-smaller t c = let a = item-answered _ _ _ _ _ _ _ _ _ (omega arith) c.read_item.ensures c.in-Ok.is in omega arith

pub read_struct-loop-next-preserved : goal.read_struct-loop-next-preserved
read_struct-loop-next-preserved t c = turn_more _ _ _ _ _ _ _ _ c.loop-next.invariant c.loop-next-test.true _ c.read_item.ensures (omega arith) _ _ _ c.in-Ok.is _ c.with_field-fields.ensures

pub read_struct-later_by-requires : goal.read_struct-later_by-requires
read_struct-later_by-requires t c = let a = fault-answered _ _ _ _ _ _ _ (omega arith) c.read_item.ensures c.in-Err.is in omega arith

pub read_struct-returns-in-Err : goal.read_struct-returns-in-Err
read_struct-returns-in-Err t c = ap Err c.later_by.ensures ∙ turn-no _ _ _ _ _ _ _ _ c.loop-next.invariant c.loop-next-test.true _ c.read_item.ensures (omega arith) (omega arith) _ c.in-Err.is

pub read_struct-closed_item-requires : goal.read_struct-closed_item-requires
read_struct-closed_item-requires t c = omega arith

pub read_struct-returns : goal.read_struct-returns
read_struct-returns t c = c.closed_item.ensures ∙ turn_end _ _ _ _ _ _ _ _ c.loop-next.invariant c.loop-next-test.false (omega arith) (omega arith)
