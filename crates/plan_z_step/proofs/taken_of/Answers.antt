-- By cases on the class.
use Rattle.base_words.specs.Basics.{round_up}
use Rattle.plan_places.specs.ZSeries.{z_span_of, z_next_of}
use native.Mathlib.Nat.{add-zero}
use native.Mathlib.Omega.{arith}
use Rattle.plan_z_step.proofs.taken_of.Goals as goal

pub returns-in-Float : goal.returns-in-Float
unfolding z_span_of z_next_of
returns-in-Float c = (rw (c.in-Float.is, c.one_left-f.ensures.0), rw (c.in-Float.is, c.one_left-f.ensures.0, add-zero c.args.c.copies), omega arith, omega arith)

pub returns-in-Simple : goal.returns-in-Simple
unfolding z_span_of z_next_of
returns-in-Simple c = (rw (c.in-Simple.is, c.one_left-g.ensures.0), rw (c.in-Simple.is, c.one_left-g.ensures.0, add-zero c.args.c.copies), omega arith, omega arith)

pub returns-in-Reference : goal.returns-in-Reference
unfolding z_span_of z_next_of round_up
returns-in-Reference c = (rw (c.in-Reference.is, c.one_left-pointer.ensures.0), rw (c.in-Reference.is, c.one_left-pointer.ensures.0), omega arith, omega arith)
