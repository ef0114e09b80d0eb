use mathlib.Core.Path.{◌≡◌}
use Prim.Native.Nat.{◌+◌, ◌-◌, ◌≤◌}
use native.Mathlib.Omega.{arith}
use native.Mathlib.Nat.{add-sub_cancel_left}
use lib.ListN.{length, drop, take, length-drop}
use lib.Seq.{length-take-le}
use Rattle.call_kept.proofs.Rows.{kept-placed, kept-end}
use Rattle.call_fill.proofs.Turns.{going_start, at-hand, going_more, going_end}
use Rattle.call_fill.proofs.put_arguments.Goals as goal

pub loop-i-init : goal.loop-i-init
loop-i-init c = going_start _ _ _ _ _ _ c.requires.0.each c.requires.1

pub type_at-t-requires : goal.type_at-t-requires
type_at-t-requires c = omega (arith, c.requires.0.room, c.loop-i-test.true)

pub span_at-s-requires : goal.span_at-s-requires
span_at-s-requires c = omega (arith, c.requires.0.room, c.loop-i-test.true)

pub overflow_add-to : goal.overflow_add-to
overflow_add-to c =
    let next = kept-placed _ _ _ _ c.loop-i-test.true _ _ _ c.type_at-t.ensures c.size_of-size.ensures c.span_at-s.ensures in
    let k = at-hand _ _ _ _ _ _ _ _ _ _ next c.loop-i.invariant in
    omega (arith, k.within, c.well_formed.1)

pub slice_bounds-put_argument-count : goal.slice_bounds-put_argument-count
slice_bounds-put_argument-count c = omega arith

pub slice_bounds-put_argument-start : goal.slice_bounds-put_argument-start
slice_bounds-put_argument-start c = omega arith

pub slice_bounds-put_argument-end : goal.slice_bounds-put_argument-end
slice_bounds-put_argument-end c =
    let next = kept-placed _ _ _ _ c.loop-i-test.true _ _ _ c.type_at-t.ensures c.size_of-size.ensures c.span_at-s.ensures in
    let k = at-hand _ _ _ _ _ _ _ _ _ _ next c.loop-i.invariant in
    omega (arith, k.within)

pub put_argument-requires : goal.put_argument-requires
put_argument-requires c =
    let next = kept-placed _ _ _ _ c.loop-i-test.true _ _ _ c.type_at-t.ensures c.size_of-size.ensures c.span_at-s.ensures in
    let k = at-hand _ _ _ _ _ _ _ _ _ _ next c.loop-i.invariant in
    let m : c.loop-i.v + c.size_of-size.result - c.loop-i.v ≡ c.size_of-size.result = add-sub_cancel_left c.loop-i.v c.size_of-size.result in
    let l : length (take c.size_of-size.result (drop c.loop-i.v c.args.values.now)) ≡ c.size_of-size.result = length-take-le c.size_of-size.result (drop c.loop-i.v c.args.values.now) (omega (arith, k.within, length-drop c.loop-i.v c.args.values.now)) in
    rw (m, l, c.loop-i.invariant.same.image, c.loop-i.invariant.same.area, c.loop-i.invariant.same.copies) k.ready

pub loop-i-preserved : goal.loop-i-preserved
loop-i-preserved c =
    let next = kept-placed _ _ _ _ c.loop-i-test.true _ _ _ c.type_at-t.ensures c.size_of-size.ensures c.span_at-s.ensures in
    let k = at-hand _ _ _ _ _ _ _ _ _ _ next c.loop-i.invariant in
    let m : c.loop-i.v + c.size_of-size.result - c.loop-i.v ≡ c.size_of-size.result = add-sub_cancel_left c.loop-i.v c.size_of-size.result in
    let l : length (take c.size_of-size.result (drop c.loop-i.v c.args.values.now)) ≡ c.size_of-size.result = length-take-le c.size_of-size.result (drop c.loop-i.v c.args.values.now) (omega (arith, k.within, length-drop c.loop-i.v c.args.values.now)) in
    rw (c.put_argument.ensures, m, l) (going_more _ _ _ _ _ _ _ _ _ _ next c.loop-i.invariant)

pub shape_of-image : goal.shape_of-image
shape_of-image c = c.loop-i.invariant.same.image

pub shape_of-area : goal.shape_of-area
shape_of-area c = c.loop-i.invariant.same.area

pub shape_of-copies : goal.shape_of-copies
shape_of-copies c = c.loop-i.invariant.same.copies

pub returns : goal.returns
returns c =
    let left : c.args.count ≤ c.loop-i.i = omega (arith, c.loop-i-test.false) in
    going_end _ _ _ _ _ _ _ _ _ (kept-end _ _ _ _ left) c.loop-i.invariant
