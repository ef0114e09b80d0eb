-- By the linkage; the slot lies near the caller's pointer. Assumes nothing.
-- By the linkage; the slot lies near the caller's pointer. Assumes nothing.
use Rattle.frame_rules.proofs.Places.{words_small}
use Rattle.frame_rules.specs.declared.Linkage.{Linkage}
use Rattle.frame_rules.specs.Frames.{link_at}
use native.Mathlib.Omega.{arith}
use mathlib.Core.Path.{sym, ap}
use Rattle.frame_preserving.proofs.link_at.Goals as goal

pub overflow_mul-result : goal.overflow_mul-result
overflow_mul-result c =
    omega (arith, words_small c.args.k.word c.args.k.pointer c.requires.0.word (omega (arith, c.requires.0.pointer)))

pub overflow_add-result : goal.overflow_add-result
overflow_add-result c =
    omega (arith, words_small c.args.k.word c.args.k.pointer c.requires.0.word (omega (arith, c.requires.0.pointer)))

pub returns-in-LinkRegister : goal.returns-in-LinkRegister
unfolding link_at
returns-in-LinkRegister c =
    sym (ap (λ (p : Linkage). link_at p c.args.k c.args.o c.args.s) c.in-LinkRegister.is)

pub returns-in-SaveArea : goal.returns-in-SaveArea
unfolding link_at
returns-in-SaveArea c =
    sym (ap (λ (p : Linkage). link_at p c.args.k c.args.o c.args.s) c.in-SaveArea.is)
