-- The run lies below the caller's pointer, or in its header. Assumes nothing.
-- The run lies below the caller's pointer, or in its header. Assumes nothing.
use Rattle.frame_rules.proofs.Places.{gpr-end, gpr-in}
use native.Mathlib.Omega.{arith}
use Rattle.frame_preserving.proofs.save_general.Goals as goal

pub overflow_sub-k : goal.overflow_sub-k
overflow_sub-k c =
    omega (arith, gpr-end c.args.k c.requires.lawful c.args.f c.requires.request)

pub save_run-requires : goal.save_run-requires
save_run-requires c =
    omega (
      arith,
      gpr-end c.args.k c.requires.lawful c.args.f c.requires.request,
      gpr-in c.args.k c.requires.lawful c.args.f c.requires.request c.args.s c.requires.fits,
      c.requires.room,
      c.requires.lawful.end,
      c.requires.lawful.word,
      c.gpr_at-at.ensures,
    )

pub returns : goal.returns
returns c =
    rw (c.save_run.ensures, c.gpr_at-at.ensures)
