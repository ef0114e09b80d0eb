-- By the linkage: CR's slot lies in the caller's header, and only fields 2 to 4 are taken. Assumes nothing.
-- By the linkage: CR's slot lies in the caller's header, and only fields 2 to 4 are taken. Assumes nothing.
use Rattle.frame_saves.specs.Saves.{load}
use Rattle.frame_rules.proofs.Facts.{law-at}
use Rattle.frame_rules.specs.declared.Linkage.{Linkage}
use Rattle.frame_rules.specs.Frames.{restored_cr}
use native.Mathlib.Omega.{arith}
use mathlib.Core.Path.{sym, ap, ◌∙◌}
use Rattle.frame_preserving.proofs.restore_cr.Goals as goal

pub overflow_add-s : goal.overflow_add-s
overflow_add-s c =
    omega (arith, law-at c.args.k.linkage _ c.args.k c.in-LinkRegister.is c.requires.0.linkage)

pub load-v-requires : goal.load-v-requires
load-v-requires c =
    omega (arith, law-at c.args.k.linkage _ c.args.k c.in-LinkRegister.is c.requires.0.linkage)

pub returns-then-f : goal.returns-then-f
unfolding restored_cr load
returns-then-f c =
    sym (ap (λ (p : Linkage). restored_cr p c.args.f c.args.s c.args.memory.now c.args.x) c.in-LinkRegister.is ∙ rw (c.if-f.true, c.merge_fields.ensures, c.load-v.ensures))

pub returns-else-f : goal.returns-else-f
unfolding restored_cr
returns-else-f c =
    sym (ap (λ (p : Linkage). restored_cr p c.args.f c.args.s c.args.memory.now c.args.x) c.in-LinkRegister.is ∙ rw c.if-f.false)

pub returns-in-SaveArea : goal.returns-in-SaveArea
unfolding restored_cr
returns-in-SaveArea c =
    sym (ap (λ (p : Linkage). restored_cr p c.args.f c.args.s c.args.memory.now c.args.x) c.in-SaveArea.is)
