-- By the linkage, each save in the order of the definition; CR's and LR's slots lie in the caller's header. Assumes nothing.
use Rattle.frame_rules.proofs.Facts.{law-at}
use Rattle.frame_preserving.proofs.Order.{saves-link, saves-area}
use native.Mathlib.Omega.{arith}
use mathlib.Core.Path.{sym}
use Rattle.frame_preserving.proofs.save_registers.Goals as goal

pub overflow_add-s : goal.overflow_add-s
overflow_add-s c =
    omega (arith, law-at c.args.k.linkage _ c.args.k c.in-LinkRegister.is c.requires.lawful.linkage, c.requires.room)

pub save_word-requires : goal.save_word-requires
save_word-requires c =
    omega (arith, law-at c.args.k.linkage _ c.args.k c.in-LinkRegister.is c.requires.lawful.linkage, c.requires.room, c.save_general.auto.memory, c.save_floating.auto.memory)

pub overflow_add-s-in-LinkRegister : goal.overflow_add-s-in-LinkRegister
overflow_add-s-in-LinkRegister c =
    omega (arith, law-at c.args.k.linkage _ c.args.k c.in-LinkRegister.is c.requires.lawful.linkage, c.requires.room)

pub save_word-requires-in-LinkRegister : goal.save_word-requires-in-LinkRegister
save_word-requires-in-LinkRegister c =
    omega (arith, law-at c.args.k.linkage _ c.args.k c.in-LinkRegister.is c.requires.lawful.linkage, c.requires.room, c.save_general.auto.memory, c.save_floating.auto.memory, c.save_word.auto.memory)

pub returns-in-LinkRegister : goal.returns-in-LinkRegister
returns-in-LinkRegister c =
    rw (c.save_word-in-LinkRegister.ensures, c.save_word.ensures, c.save_floating.ensures, c.save_general.ensures)
    (sym (saves-link c.args.k.linkage c.in-LinkRegister.cr_at c.in-LinkRegister.lr_at c.args.k c.args.f c.args.s c.args.r c.args.memory.now c.in-LinkRegister.is))

pub returns-in-SaveArea : goal.returns-in-SaveArea
returns-in-SaveArea c =
    rw (c.save_general-in-SaveArea.ensures, c.save_floating-in-SaveArea.ensures)
    (sym (saves-area c.args.k.linkage _ c.args.k c.args.f c.args.s c.args.r c.args.memory.now c.in-SaveArea.is))
