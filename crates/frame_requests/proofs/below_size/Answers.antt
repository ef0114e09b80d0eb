-- By the linkage, the definition's own sum; it stays small. Assumes nothing.
use Rattle.frame_rules.proofs.Places.{gpr-end, fpr-end, words_small}
use Rattle.frame_rules.specs.declared.Linkage.{Linkage}
use Rattle.frame_rules.specs.Frames.{below}
use Prim.Native.Nat.{◌-◌}
use native.Mathlib.Omega.{arith}
use mathlib.Core.Path.{sym, ap}
use Rattle.frame_requests.proofs.below_size.Goals as goal

pub overflow_sub-result : goal.overflow_sub-result
overflow_sub-result c =
    omega (arith, fpr-end c.args.k c.requires.lawful_frames c.args.f c.requires.f_value)

pub overflow_sub-result-in-LinkRegister : goal.overflow_sub-result-in-LinkRegister
overflow_sub-result-in-LinkRegister c =
    omega (arith, gpr-end c.args.k c.requires.lawful_frames c.args.f c.requires.f_value)

pub overflow_mul-result-in-LinkRegister : goal.overflow_mul-result-in-LinkRegister
overflow_mul-result-in-LinkRegister c =
    omega (arith, words_small c.args.k.word (c.args.k.end - c.args.f.first_gpr) c.requires.lawful_frames.word (omega (arith, c.requires.lawful_frames.end)))

pub overflow_add-result : goal.overflow_add-result
overflow_add-result c =
    omega (
      arith,
      words_small c.args.k.word (c.args.k.end - c.args.f.first_gpr) c.requires.lawful_frames.word (omega (arith, c.requires.lawful_frames.end)),
      c.requires.lawful_frames.end,
    )

pub overflow_sub-result-in-SaveArea : goal.overflow_sub-result-in-SaveArea
overflow_sub-result-in-SaveArea c =
    omega (arith, fpr-end c.args.k c.requires.lawful_frames c.args.f c.requires.f_value)

pub returns-in-LinkRegister : goal.returns-in-LinkRegister
unfolding below
returns-in-LinkRegister c =
    sym (ap (λ (p : Linkage). below p c.args.k c.args.f) c.in-LinkRegister.is)

pub returns-in-SaveArea : goal.returns-in-SaveArea
unfolding below
returns-in-SaveArea c =
    sym (ap (λ (p : Linkage). below p c.args.k c.args.f) c.in-SaveArea.is)
