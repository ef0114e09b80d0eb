-- The parts of a lawful frame stay small, and their sum is the definition's. Assumes nothing.
use Rattle.frame_rules.proofs.Places.{full-small, full-parts}
use Rattle.frame_rules.specs.Frames.{full_size}
use native.Mathlib.Omega.{arith}
use Rattle.frame_requests.proofs.full_size.Goals as goal

pub overflow_add-k : goal.overflow_add-k
overflow_add-k c =
    omega (
      arith,
      full-small c.args.k c.requires.lawful_frames c.args.f c.requires.f_value,
      full-parts c.args.k c.requires.lawful_frames c.args.f c.requires.f_value,
      c.outgoing_length-p.ensures,
    )

pub overflow_add-k-2 : goal.overflow_add-k-2
overflow_add-k-2 c =
    omega (
      arith,
      full-small c.args.k c.requires.lawful_frames c.args.f c.requires.f_value,
      full-parts c.args.k c.requires.lawful_frames c.args.f c.requires.f_value,
      c.outgoing_length-p.ensures,
    )

pub overflow_add-k-3 : goal.overflow_add-k-3
overflow_add-k-3 c =
    omega (
      arith,
      full-small c.args.k c.requires.lawful_frames c.args.f c.requires.f_value,
      full-parts c.args.k c.requires.lawful_frames c.args.f c.requires.f_value,
      c.outgoing_length-p.ensures,
      c.below_size-b.ensures,
    )

pub round_up-requires : goal.round_up-requires
round_up-requires c =
    omega (
      arith,
      full-small c.args.k c.requires.lawful_frames c.args.f c.requires.f_value,
      full-parts c.args.k c.requires.lawful_frames c.args.f c.requires.f_value,
      c.outgoing_length-p.ensures,
      c.below_size-b.ensures,
      c.requires.lawful_frames.some,
      c.requires.lawful_frames.alignment,
    )

pub returns : goal.returns
unfolding full_size
returns c =
    rw (c.round_up.ensures, c.outgoing_length-p.ensures, c.below_size-b.ensures)
