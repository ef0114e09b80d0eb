-- By the linkage, the definition's own arithmetic: the saves fit below the caller's pointer, or in its header. Assumes nothing.
use Rattle.frame_rules.proofs.Places.{gpr-end, fpr-end, fpr-le, gpr-in, words_small}
use Rattle.frame_rules.specs.declared.Linkage.{Linkage}
use Rattle.frame_rules.specs.Frames.{below, gpr_at}
use Prim.Native.Nat.{◌-◌}
use native.Mathlib.Omega.{arith}
use mathlib.Core.Path.{sym, ap}
use Rattle.frame_preserving.proofs.gpr_at.Goals as goal

pub overflow_sub-result : goal.overflow_sub-result
overflow_sub-result c =
    omega (arith, fpr-end c.args.k c.requires.lawful c.args.f c.requires.request)

pub overflow_sub-result-in-LinkRegister : goal.overflow_sub-result-in-LinkRegister
overflow_sub-result-in-LinkRegister c =
    omega (arith, fpr-le c.args.k c.requires.lawful c.args.f c.requires.request c.args.s c.requires.fits)

pub overflow_sub-result-in-LinkRegister-2 : goal.overflow_sub-result-in-LinkRegister-2
overflow_sub-result-in-LinkRegister-2 c =
    omega (arith, gpr-end c.args.k c.requires.lawful c.args.f c.requires.request)

pub overflow_mul-result-in-LinkRegister : goal.overflow_mul-result-in-LinkRegister
overflow_mul-result-in-LinkRegister c =
    omega (arith, words_small c.args.k.word (c.args.k.end - c.args.f.first_gpr) c.requires.lawful.word (omega (arith, c.requires.lawful.end)))

pub overflow_sub-result-in-LinkRegister-3 : goal.overflow_sub-result-in-LinkRegister-3
unfolding below
overflow_sub-result-in-LinkRegister-3 c =
    let e = ap (λ (p : Linkage). below p c.args.k c.args.f) c.in-LinkRegister.is in
    omega (arith, e, c.requires.fits)

pub overflow_mul-result-in-SaveArea : goal.overflow_mul-result-in-SaveArea
overflow_mul-result-in-SaveArea c =
    omega (
      arith,
      words_small c.args.k.word c.args.f.first_gpr c.requires.lawful.word (omega (
        arith,
        c.requires.lawful.end,
        gpr-end c.args.k c.requires.lawful c.args.f c.requires.request,
      )),
    )

pub overflow_add-result : goal.overflow_add-result
unfolding gpr_at
overflow_add-result c =
    let e = ap (λ (p : Linkage). gpr_at p c.args.k c.args.f c.args.s) c.in-SaveArea.is in
    omega (arith, e, gpr-in c.args.k c.requires.lawful c.args.f c.requires.request c.args.s c.requires.fits, c.requires.room)

pub returns-in-LinkRegister : goal.returns-in-LinkRegister
unfolding gpr_at
returns-in-LinkRegister c =
    sym (ap (λ (p : Linkage). gpr_at p c.args.k c.args.f c.args.s) c.in-LinkRegister.is)

pub returns-in-SaveArea : goal.returns-in-SaveArea
unfolding gpr_at
returns-in-SaveArea c =
    sym (ap (λ (p : Linkage). gpr_at p c.args.k c.args.f c.args.s) c.in-SaveArea.is)
