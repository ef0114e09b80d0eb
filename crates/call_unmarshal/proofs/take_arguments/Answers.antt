use borrow.Author.Rules.{rules}
use mathlib.Core.Path.{◌≡◌, ap, ◌∙◌}
use mathlib.Core.List.{List, ◌∷◌}
use Prim.Native.Nat.{ℕ, suc, ◌+◌, ◌-◌, ◌≤◌}
use native.Mathlib.Omega.{arith}
use lib.ListN.{length, drop}
use borrow.Rule.Slice.PartMut.{put_mid}
use Rattle.base_words.specs.Splice.{splice}
use Rattle.base_words.proofs.Splices.{lent-tail}
use Rattle.call_slots.specs.Buffers.{buffers}
use Rattle.call_slots.specs.Placements.{placement, value_at}
use Rattle.call_kept.specs.Helpers.{kept_all}
use Rattle.call_kept.proofs.Rows.{kept-placed, kept-end}
use Rattle.call_unmarshal.proofs.Turns.{taking-start, taking-readable, taking-within, taking-more, taking-end}
use Rattle.call_unmarshal.proofs.take_arguments.Goals as goal

pub loop-i-init : goal.loop-i-init
loop-i-init c = taking-start _ _ _ _ _ c.requires.0.each c.requires.1

pub type_at-t-requires : goal.type_at-t-requires
type_at-t-requires c = omega (arith, c.requires.0.room, c.loop-i-test.true)

pub span_at-s-requires : goal.span_at-s-requires
span_at-s-requires c = omega (arith, c.requires.0.room, c.loop-i-test.true)

pub slice_bounds-take_argument-count : goal.slice_bounds-take_argument-count
slice_bounds-take_argument-count c = omega (arith, (let it : c.loop-i.v + ((placement c.type_at-t.result c.size_of-n.result c.span_at-s.result)).size ≤ length c.loop-i.values = taking-within _ _ _ _ _ _ _ _ ((placement c.type_at-t.result c.size_of-n.result c.span_at-s.result)) ((let it : drop c.loop-i.i ((kept_all c.args.convention c.args.kept.now c.args.count)) ≡ (placement c.type_at-t.result c.size_of-n.result c.span_at-s.result) ∷ drop (suc c.loop-i.i) ((kept_all c.args.convention c.args.kept.now c.args.count)) = kept-placed c.args.convention c.args.kept.now c.loop-i.i c.args.count c.loop-i-test.true _ _ _ c.type_at-t.ensures c.size_of-n.ensures c.span_at-s.ensures in it)) c.loop-i.invariant in it))

pub slice_bounds-take_argument-start : goal.slice_bounds-take_argument-start
slice_bounds-take_argument-start c = omega (arith, (let it : c.loop-i.v + ((placement c.type_at-t.result c.size_of-n.result c.span_at-s.result)).size ≤ length c.loop-i.values = taking-within _ _ _ _ _ _ _ _ ((placement c.type_at-t.result c.size_of-n.result c.span_at-s.result)) ((let it : drop c.loop-i.i ((kept_all c.args.convention c.args.kept.now c.args.count)) ≡ (placement c.type_at-t.result c.size_of-n.result c.span_at-s.result) ∷ drop (suc c.loop-i.i) ((kept_all c.args.convention c.args.kept.now c.args.count)) = kept-placed c.args.convention c.args.kept.now c.loop-i.i c.args.count c.loop-i-test.true _ _ _ c.type_at-t.ensures c.size_of-n.ensures c.span_at-s.ensures in it)) c.loop-i.invariant in it))

pub take_argument-requires : goal.take_argument-requires
take_argument-requires c =
    (taking-readable _ _ _ _ _ _ _ _ ((placement c.type_at-t.result c.size_of-n.result c.span_at-s.result)) ((let it : drop c.loop-i.i ((kept_all c.args.convention c.args.kept.now c.args.count)) ≡ (placement c.type_at-t.result c.size_of-n.result c.span_at-s.result) ∷ drop (suc c.loop-i.i) ((kept_all c.args.convention c.args.kept.now c.args.count)) = kept-placed c.args.convention c.args.kept.now c.loop-i.i c.args.count c.loop-i-test.true _ _ _ c.type_at-t.ensures c.size_of-n.ensures c.span_at-s.ensures in it)) c.loop-i.invariant, omega (arith, (let it : c.loop-i.v + ((placement c.type_at-t.result c.size_of-n.result c.span_at-s.result)).size ≤ length c.loop-i.values = taking-within _ _ _ _ _ _ _ _ ((placement c.type_at-t.result c.size_of-n.result c.span_at-s.result)) ((let it : drop c.loop-i.i ((kept_all c.args.convention c.args.kept.now c.args.count)) ≡ (placement c.type_at-t.result c.size_of-n.result c.span_at-s.result) ∷ drop (suc c.loop-i.i) ((kept_all c.args.convention c.args.kept.now c.args.count)) = kept-placed c.args.convention c.args.kept.now c.loop-i.i c.args.count c.loop-i-test.true _ _ _ c.type_at-t.ensures c.size_of-n.ensures c.span_at-s.ensures in it)) c.loop-i.invariant in it)))

pub overflow_add-v : goal.overflow_add-v
overflow_add-v c = omega (arith, (let it : c.loop-i.v + ((placement c.type_at-t.result c.size_of-n.result c.span_at-s.result)).size ≤ length c.loop-i.values = taking-within _ _ _ _ _ _ _ _ ((placement c.type_at-t.result c.size_of-n.result c.span_at-s.result)) ((let it : drop c.loop-i.i ((kept_all c.args.convention c.args.kept.now c.args.count)) ≡ (placement c.type_at-t.result c.size_of-n.result c.span_at-s.result) ∷ drop (suc c.loop-i.i) ((kept_all c.args.convention c.args.kept.now c.args.count)) = kept-placed c.args.convention c.args.kept.now c.loop-i.i c.args.count c.loop-i-test.true _ _ _ c.type_at-t.ensures c.size_of-n.ensures c.span_at-s.ensures in it)) c.loop-i.invariant in it), c.loop-i.invariant.same, c.well_formed.0)

pub loop-i-preserved : goal.loop-i-preserved
loop-i-preserved c =
    let x : List ℕ = value_at c.args.rules c.args.base ((placement c.type_at-t.result c.size_of-n.result c.span_at-s.result)) ((buffers c.args.image.now c.args.area.now c.args.copies.now)) in
    let e : put_mid c.loop-i.v (length c.loop-i.values - c.loop-i.v) c.loop-i.values c.take_argument.new.out ≡ splice c.loop-i.values c.loop-i.v x = ap (put_mid c.loop-i.v (length c.loop-i.values - c.loop-i.v) c.loop-i.values) c.take_argument.ensures ∙ lent-tail c.loop-i.values c.loop-i.v x in
    rw e (taking-more _ _ _ _ _ _ _ _ ((placement c.type_at-t.result c.size_of-n.result c.span_at-s.result)) ((let it : drop c.loop-i.i ((kept_all c.args.convention c.args.kept.now c.args.count)) ≡ (placement c.type_at-t.result c.size_of-n.result c.span_at-s.result) ∷ drop (suc c.loop-i.i) ((kept_all c.args.convention c.args.kept.now c.args.count)) = kept-placed c.args.convention c.args.kept.now c.loop-i.i c.args.count c.loop-i-test.true _ _ _ c.type_at-t.ensures c.size_of-n.ensures c.span_at-s.ensures in it)) c.loop-i.invariant)

pub shape_of-values : goal.shape_of-values
shape_of-values c = c.loop-i.invariant.same

pub returns : goal.returns
returns c =
    taking-end _ _ _ _ _ _ _ _ (kept-end c.args.convention c.args.kept.now c.loop-i.i c.args.count (omega (arith, c.loop-i-test.false))) c.loop-i.invariant
