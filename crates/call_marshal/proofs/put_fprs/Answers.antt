-- Through the part of the image that starts at the first FPR; nothing where there is none.
use mathlib.Core.Path.{refl, sym, ap, subst, ◌∙◌}
use Prim.Native.Nat.{ℕ, ◌+◌, ◌-◌, ◌*◌, ◌≤◌}
use native.Mathlib.Omega.{arith}
use lib.ListN.{length, take, drop, length-take, length-drop}
use borrow.Rule.Slice.PartMut.{put_mid}
use Rattle.base_words.specs.Splice.{splice}
use Rattle.base_words.proofs.Splices.{lent-tail}
use Rattle.sig_types.specs.declared.Equivalent.{Equivalent}
use Rattle.sig_types.specs.Sizes.{equivalent_of}
use Rattle.call_slots.specs.Forms.{float_form}
use Rattle.call_slots.specs.Placements.{placement}
use Rattle.call_marshal.specs.Helpers.{FprsTake}
use Rattle.call_marshal.proofs.Arguments.{float-room, fprs-some, fprs-none}
use Rattle.call_marshal.proofs.put_fprs.Goals as goal

pub put_float-requires : goal.put_float-requires
put_float-requires c =
    let at : ℕ = 256 + 8 * c.args.s.floating.first in
    let room : 8 * c.args.s.floating.count ≤ length (take (length c.args.image.now - at) (drop at c.args.image.now)) = omega (arith, c.requires.floating, c.requires.image, length-take (length c.args.image.now - at) (drop at c.args.image.now), length-drop at c.args.image.now) in
    subst (λ (e : Equivalent). FprsTake e (length c.args.v.now) (length (take (length c.args.image.now - at) (drop at c.args.image.now)))) (sym c.equivalent_of.ensures)
    (float-room (equivalent_of c.args.t) c.args.s.floating.count (length c.args.v.now) _ (c.requires.held.float c.if-floating-gt0.true) room)

pub returns-then-floating-gt0 : goal.returns-then-floating-gt0
returns-then-floating-gt0 c =
    let at : ℕ = 256 + 8 * c.args.s.floating.first in
    let whole = fprs-some c.args.r 0 (placement c.args.t (length c.args.v.now) c.args.s) c.args.v.now c.args.image.now c.args.image.now c.args.image.now c.requires.held c.if-floating-gt0.true refl in
    ap (put_mid at (length c.args.image.now - at) c.args.image.now) c.put_float.ensures ∙ lent-tail c.args.image.now at _ ∙ ap (λ (e : Equivalent). splice c.args.image.now at (float_form c.args.r e c.args.v.now)) c.equivalent_of.ensures ∙ ap (splice c.args.image.now at) whole

pub returns-else-floating-gt0 : goal.returns-else-floating-gt0
returns-else-floating-gt0 c =
    sym (fprs-none c.args.r 0 (placement c.args.t (length c.args.v.now) c.args.s) c.args.v.now c.args.image.now c.args.image.now c.args.image.now c.requires.held c.if-floating-gt0.false)
