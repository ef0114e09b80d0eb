-- Each part in its turn.
use Rattle.plan_text.proofs.Writing.{wrote_then}
use Rattle.plan_listing.specs.Text.{head_text}
use native.Mathlib.Omega.{arith}
use Rattle.plan_listing.proofs.put_head.Goals as goal

pub returns : goal.returns
unfolding head_text
returns c =
    (wrote_then (rw c.name_of.ensures.0 at c.put_bytes-a.ensures) (wrote_then c.put_labelled-b.ensures.0 (wrote_then c.put_labelled-d.ensures.0 (wrote_then c.put_ellipsis-e.ensures.0 c.put_byte.ensures))), omega (arith, c.name_of.ensures.1, c.put_bytes-a.ensures.end, c.put_labelled-b.ensures.1, c.put_labelled-d.ensures.1, c.put_ellipsis-e.ensures.1, c.put_byte.ensures.end))
