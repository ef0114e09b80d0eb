use mathlib.Core.Path.{◌≡◌, ap, ◌∙◌}
use mathlib.Core.List.{List, ◌++◌}
use Prim.Native.Nat.{ℕ, ◌+◌, ◌-◌, ◌*◌, ◌≤◌}
use native.Mathlib.Omega.{arith}
use lib.ListN.{length, replicate}
use borrow.Rule.Slice.PartMut.{put_mid}
use Rattle.base_words.specs.Splice.{splice, part}
use Rattle.base_words.proofs.Splices.{lent-tail, length_part}
use Rattle.call_registers.specs.Registers.{in_register}
use Rattle.call_registers.proofs.Putting.{bytes-start, bytes-piece, bytes-more, bytes-end}
use Rattle.call_registers.proofs.put_each.Goals as goal

pub loop-i-init : goal.loop-i-init
loop-i-init c = bytes-start _ _ _ _ c.requires

pub overflow_mul-at : goal.overflow_mul-at
overflow_mul-at c = omega (arith, c.loop-i-test.true, c.requires)

pub overflow_add-from : goal.overflow_add-from
overflow_add-from c = omega (arith, bytes-piece _ _ _ _ c.requires _ _ _ c.loop-i.invariant c.loop-i-test.true, c.requires)

pub slice_bounds-put_register-count : goal.slice_bounds-put_register-count
slice_bounds-put_register-count c = omega (arith, c.loop-i-test.true, c.loop-i.invariant.size, c.requires)

pub slice_bounds-put_register-count-in-loop-i : goal.slice_bounds-put_register-count-in-loop-i
slice_bounds-put_register-count-in-loop-i c =
    let q = bytes-piece _ _ _ _ c.requires _ _ _ c.loop-i.invariant c.loop-i-test.true in
    rw c.min-to.ensures q.0

pub slice_bounds-put_register-start-in-loop-i : goal.slice_bounds-put_register-start-in-loop-i
slice_bounds-put_register-start-in-loop-i c =
    let q = bytes-piece _ _ _ _ c.requires _ _ _ c.loop-i.invariant c.loop-i-test.true in
    rw c.min-to.ensures q.0

pub put_register-requires : goal.put_register-requires
put_register-requires c =
    let q = bytes-piece _ _ _ _ c.requires _ _ _ c.loop-i.invariant c.loop-i-test.true in
    let size : length (part c.loop-i.from (c.min-to.result - c.loop-i.from) c.args.v.now) ≡ c.min-to.result - c.loop-i.from = length_part c.loop-i.from (c.min-to.result - c.loop-i.from) c.args.v.now (omega (arith, q, c.min-to.ensures)) in
    let room : 8 * c.loop-i.i + 8 ≤ length c.loop-i.s = omega (arith, c.loop-i-test.true, c.loop-i.invariant.size, c.requires) in
    (omega (arith, size, q.2, c.min-to.ensures), c.requires.1, omega (arith, length_part (8 * c.loop-i.i) (length c.loop-i.s - 8 * c.loop-i.i) c.loop-i.s (omega arith)))

pub loop-i-preserved : goal.loop-i-preserved
loop-i-preserved c =
    let piece : List ℕ = part c.loop-i.from (c.min-to.result - c.loop-i.from) c.args.v.now in
    let more = bytes-more _ _ _ _ c.requires _ _ _ c.loop-i.invariant c.loop-i-test.true in
    let q = bytes-piece _ _ _ _ c.requires _ _ _ c.loop-i.invariant c.loop-i-test.true in
    let size : length piece ≡ c.min-to.result - c.loop-i.from = length_part c.loop-i.from (c.min-to.result - c.loop-i.from) c.args.v.now (omega (arith, q, c.min-to.ensures)) in
    let put : put_mid (8 * c.loop-i.i) (length c.loop-i.s - 8 * c.loop-i.i) c.loop-i.s c.put_register.new.s ≡ splice c.loop-i.s (8 * c.loop-i.i) (in_register c.args.word (piece ++ replicate (c.args.word - (c.min-to.result - c.loop-i.from)) 0)) =
    ap (put_mid (8 * c.loop-i.i) (length c.loop-i.s - 8 * c.loop-i.i) c.loop-i.s) c.put_register.ensures ∙ lent-tail c.loop-i.s (8 * c.loop-i.i) (in_register c.args.word (piece ++ replicate (c.args.word - length piece) 0))
    ∙ ap (λ (n : ℕ). splice c.loop-i.s (8 * c.loop-i.i) (in_register c.args.word (piece ++ replicate (c.args.word - n) 0))) size in
    rw (put, c.min-to.ensures) more

pub shape_of-s : goal.shape_of-s
shape_of-s c = c.loop-i.invariant.size

pub returns : goal.returns
returns c = bytes-end _ _ _ _ c.requires _ _ _ c.loop-i.invariant c.loop-i-test.false
