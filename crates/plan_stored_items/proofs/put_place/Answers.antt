-- A byte after the other.
use Rattle.plan_stored_items.specs.Places.{place_bytes}
use Rattle.plan_text.proofs.Writing.{wrote_then}
use native.Mathlib.Omega.{arith}
use Rattle.plan_stored_items.proofs.put_place.Goals as goal

pub returns : goal.returns
unfolding place_bytes
returns c = (wrote_then c.put_byte-a.ensures (wrote_then c.put_byte-b.ensures (wrote_then c.put_byte-d.ensures c.put_two.ensures.0)), omega (arith, c.put_byte-a.ensures.end, c.put_byte-b.ensures.end, c.put_byte-d.ensures.end, c.put_two.ensures.1))
