-- By the linkage: LR's slot lies in the caller's header. Assumes nothing.
use Rattle.frame_saves.specs.Saves.{load}
use Rattle.frame_rules.proofs.Facts.{law-at}
use Rattle.frame_rules.specs.declared.Linkage.{Linkage}
use Rattle.frame_rules.specs.Frames.{restored_lr}
use native.Mathlib.Omega.{arith}
use mathlib.Core.Path.{sym, ap, ◌∙◌}
use Rattle.frame_preserving.proofs.restore_lr.Goals as goal

pub overflow_add-s : goal.overflow_add-s
overflow_add-s c =
    omega (arith, law-at c.args.k.linkage _ c.args.k c.in-LinkRegister.is c.requires.0.linkage)

pub load-requires : goal.load-requires
load-requires c =
    omega (arith, law-at c.args.k.linkage _ c.args.k c.in-LinkRegister.is c.requires.0.linkage, c.requires.0.word)

pub returns-then-f : goal.returns-then-f
unfolding restored_lr
returns-then-f c =
    sym (ap (λ (p : Linkage). restored_lr p c.args.k c.args.f c.args.s c.args.memory.now c.args.x) c.in-LinkRegister.is ∙ rw c.if-f.true)

pub returns-else-f : goal.returns-else-f
unfolding restored_lr load
returns-else-f c =
    sym (ap (λ (p : Linkage). restored_lr p c.args.k c.args.f c.args.s c.args.memory.now c.args.x) c.in-LinkRegister.is ∙ rw (c.if-f.false, c.load.ensures))

pub returns-in-SaveArea : goal.returns-in-SaveArea
unfolding restored_lr
returns-in-SaveArea c =
    sym (ap (λ (p : Linkage). restored_lr p c.args.k c.args.f c.args.s c.args.memory.now c.args.x) c.in-SaveArea.is)
