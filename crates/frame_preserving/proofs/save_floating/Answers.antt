-- The run lies below the caller's pointer. Assumes nothing.
-- The run lies below the caller's pointer. Assumes nothing.
use Rattle.frame_rules.proofs.Places.{fpr-end, fpr-le}
use native.Mathlib.Omega.{arith}
use Rattle.frame_preserving.proofs.save_floating.Goals as goal

pub overflow_sub-c : goal.overflow_sub-c
overflow_sub-c c =
    omega (arith, fpr-end c.args.k c.requires.lawful c.args.f c.requires.request)

pub overflow_sub-s : goal.overflow_sub-s
overflow_sub-s c =
    omega (arith, fpr-le c.args.k c.requires.lawful c.args.f c.requires.request c.args.s c.requires.fits)

pub save_run-requires : goal.save_run-requires
save_run-requires c =
    omega (
      arith,
      fpr-end c.args.k c.requires.lawful c.args.f c.requires.request,
      fpr-le c.args.k c.requires.lawful c.args.f c.requires.request c.args.s c.requires.fits,
      c.requires.room,
      c.requires.lawful.end,
      c.requires.lawful.word,
    )
