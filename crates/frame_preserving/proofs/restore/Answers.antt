-- Each part is restored from where it was saved. Assumes nothing.
-- Each part is restored from where it was saved. Assumes nothing.
use Rattle.frame_rules.proofs.Places.{gpr-end, gpr-in, fpr-end, fpr-le}
use Rattle.frame_rules.specs.Frames.{restored}
use native.Mathlib.Omega.{arith}
use Rattle.frame_preserving.proofs.restore.Goals as goal

pub overflow_sub-c : goal.overflow_sub-c
overflow_sub-c c =
    omega (arith, fpr-end c.args.k c.requires.lawful c.args.f c.requires.request)

pub overflow_sub-k : goal.overflow_sub-k
overflow_sub-k c =
    omega (arith, gpr-end c.args.k c.requires.lawful c.args.f c.requires.request)

pub load_run-gpr-requires : goal.load_run-gpr-requires
load_run-gpr-requires c =
    omega (
      arith,
      gpr-end c.args.k c.requires.lawful c.args.f c.requires.request,
      gpr-in c.args.k c.requires.lawful c.args.f c.requires.request c.args.s c.requires.fits,
      c.requires.room,
      c.requires.lawful.end,
      c.requires.lawful.word,
      c.gpr_at-at.ensures,
    )

pub overflow_sub-s : goal.overflow_sub-s
overflow_sub-s c =
    omega (arith, fpr-le c.args.k c.requires.lawful c.args.f c.requires.request c.args.s c.requires.fits)

pub load_run-fpr-requires : goal.load_run-fpr-requires
load_run-fpr-requires c =
    omega (
      arith,
      fpr-end c.args.k c.requires.lawful c.args.f c.requires.request,
      fpr-le c.args.k c.requires.lawful c.args.f c.requires.request c.args.s c.requires.fits,
      c.requires.room,
      c.requires.lawful.end,
      c.requires.lawful.word,
    )

pub returns : goal.returns
unfolding restored
returns c =
    rw (c.load_run-gpr.ensures, c.gpr_at-at.ensures, c.load_run-fpr.ensures, c.restore_lr-lr.ensures, c.restore_cr-cr.ensures)
