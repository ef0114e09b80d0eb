use mathlib.Core.Path.{◌≡◌, ap, ◌∙◌}
use Prim.Native.Nat.{ℕ, ◌+◌, ◌-◌, ◌*◌}
use native.Mathlib.Omega.{arith}
use native.Mathlib.Nat.{add-sub_cancel_left}
use lib.ListN.{length}
use borrow.Rule.Slice.PartMut.{put_mid}
use Rattle.base_words.specs.Splice.{splice, part}
use Rattle.base_words.proofs.Splices.{lent-tail}
use Rattle.call_registers.proofs.Taking.{taking-start, taking-inside, taking-less, taking-more, taking-end}
use Rattle.call_registers.proofs.take_each.Goals as goal

pub loop-done-init : goal.loop-done-init
loop-done-init c = taking-start _ _ _ _ _ _ _ c.requires.0 c.requires.1

pub overflow_sub-word : goal.overflow_sub-word
overflow_sub-word c = omega (arith, c.loop-done.invariant.next c.loop-done-test.true)

pub overflow_mul-from : goal.overflow_mul-from
overflow_mul-from c = omega (arith, taking-inside _ _ _ _ _ _ _ c.requires.0 c.requires.1 _ _ _ _ c.loop-done.invariant c.loop-done-test.true, c.min-m.ensures)

pub overflow_add-from : goal.overflow_add-from
overflow_add-from c = omega (arith, taking-inside _ _ _ _ _ _ _ c.requires.0 c.requires.1 _ _ _ _ c.loop-done.invariant c.loop-done-test.true, c.min-m.ensures)

pub overflow_add-from-in-loop-done : goal.overflow_add-from-in-loop-done
overflow_add-from-in-loop-done c = omega (arith, taking-inside _ _ _ _ _ _ _ c.requires.0 c.requires.1 _ _ _ _ c.loop-done.invariant c.loop-done-test.true, c.min-m.ensures)

pub overflow_add-to : goal.overflow_add-to
overflow_add-to c = omega (arith, taking-inside _ _ _ _ _ _ _ c.requires.0 c.requires.1 _ _ _ _ c.loop-done.invariant c.loop-done-test.true, c.min-m.ensures)

pub slice_bounds-put-end-in-loop-done : goal.slice_bounds-put-end-in-loop-done
slice_bounds-put-end-in-loop-done c = omega (arith, taking-inside _ _ _ _ _ _ _ c.requires.0 c.requires.1 _ _ _ _ c.loop-done.invariant c.loop-done-test.true, c.min-m.ensures)

pub overflow_add-register : goal.overflow_add-register
overflow_add-register c = omega (arith, taking-inside _ _ _ _ _ _ _ c.requires.0 c.requires.1 _ _ _ _ c.loop-done.invariant c.loop-done-test.true)

pub loop-done-smaller : goal.loop-done-smaller
loop-done-smaller c =
    rw c.min-m.ensures (taking-less _ _ _ _ _ _ _ c.requires.0 c.requires.1 _ _ _ _ c.loop-done.invariant c.loop-done-test.true)

pub loop-done-preserved : goal.loop-done-preserved
loop-done-preserved c =
    let from : ℕ = 8 * c.loop-done.register + (8 - c.args.word) + c.loop-done.passed in
    let more = taking-more _ _ _ _ _ _ _ c.requires.0 c.requires.1 _ _ _ _ c.loop-done.invariant c.loop-done-test.true in
    let put : put_mid c.loop-done.done (length c.loop-done.out - c.loop-done.done) c.loop-done.out c.put.new.s ≡ splice c.loop-done.out c.loop-done.done (part from c.min-m.result c.args.image.now) =
    ap (put_mid c.loop-done.done (length c.loop-done.out - c.loop-done.done) c.loop-done.out) c.put.ensures ∙ lent-tail c.loop-done.out c.loop-done.done (part from (from + c.min-m.result - from) c.args.image.now)
    ∙ ap (λ (i : ℕ). splice c.loop-done.out c.loop-done.done (part from i c.args.image.now)) (add-sub_cancel_left from c.min-m.result) in
    rw (put, c.min-m.ensures) more

pub returns : goal.returns
returns c = taking-end _ _ _ _ _ _ _ c.requires.0 c.requires.1 _ _ _ _ c.loop-done.invariant c.loop-done-test.false
