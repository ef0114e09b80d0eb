use mathlib.Core.Path.{◌≡◌, ap, ◌∙◌}
use Prim.Native.Nat.{ℕ, ◌+◌, ◌-◌, ◌*◌, ◌/◌, ◌^◌, ◌≤◌}
use native.Mathlib.Omega.{arith}
use lib.ListN.{length}
use borrow.Rule.Slice.PartMut.{put_mid}
use Rattle.base_words.specs.Splice.{splice}
use Rattle.base_words.specs.Numbers.{bytes_of, zero_extended}
use Rattle.base_words.proofs.Splices.{lent-tail, length_part}
use Rattle.call_registers.proofs.Putting.{number-start, number-room, number_more, number-end}
use Rattle.call_registers.proofs.put_number_registers.Goals as goal

pub loop-i-init : goal.loop-i-init
loop-i-init c = number-start _ _ _ _ _ c.requires.1 c.requires.2

pub overflow_mul-at : goal.overflow_mul-at
overflow_mul-at c = omega (arith, c.loop-i-test.true, c.requires)

pub overflow_sub-rest : goal.overflow_sub-rest
overflow_sub-rest c = number-room _ _ _ _ _ c.requires.1 c.requires.2 _ _ _ c.loop-i.invariant c.loop-i-test.true

pub slice_bounds-put_number-count : goal.slice_bounds-put_number-count
slice_bounds-put_number-count c = omega (arith, c.loop-i-test.true, c.loop-i.invariant.size, c.requires)

pub overflow_mul-rest : goal.overflow_mul-rest
overflow_mul-rest c = omega (arith, c.loop-i.invariant.left, c.requires)

pub overflow_shr-x : goal.overflow_shr-x
overflow_shr-x c = omega (arith, c.loop-i.invariant.left, c.requires)

pub put_number-requires : goal.put_number-requires
put_number-requires c =
    let room : 8 * c.loop-i.i + 8 ≤ length c.loop-i.s = omega (arith, c.loop-i-test.true, c.loop-i.invariant.size, c.requires) in
    omega (arith, length_part (8 * c.loop-i.i) (length c.loop-i.s - 8 * c.loop-i.i) c.loop-i.s (omega arith))

pub loop-i-preserved : goal.loop-i-preserved
loop-i-preserved c =
    let more = number_more _ _ _ _ _ c.requires.1 c.requires.2 _ _ _ c.loop-i.invariant c.loop-i-test.true in
    let put : put_mid (8 * c.loop-i.i) (length c.loop-i.s - 8 * c.loop-i.i) c.loop-i.s c.put_number.new.s ≡ splice c.loop-i.s (8 * c.loop-i.i) (bytes_of 8 (zero_extended c.args.word (c.args.x / 2 ^ (8 * (c.loop-i.rest - c.args.word))))) =
    ap (put_mid (8 * c.loop-i.i) (length c.loop-i.s - 8 * c.loop-i.i) c.loop-i.s) c.put_number.ensures ∙ lent-tail c.loop-i.s (8 * c.loop-i.i) (bytes_of 8 c.zero_extend.result)
    ∙ ap (λ (n : ℕ). splice c.loop-i.s (8 * c.loop-i.i) (bytes_of 8 n)) c.zero_extend.ensures in
    rw put more

pub shape_of-s : goal.shape_of-s
shape_of-s c = c.loop-i.invariant.size

pub returns : goal.returns
returns c = number-end _ _ _ _ _ c.requires.1 c.requires.2 _ _ _ c.loop-i.invariant c.loop-i-test.false
