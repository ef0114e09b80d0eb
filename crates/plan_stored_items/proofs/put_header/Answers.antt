-- A byte after the other.
use Rattle.plan_text.proofs.Writing.{wrote_then}
use native.Mathlib.Omega.{arith}
use Rattle.plan_stored_items.proofs.put_header.Goals as goal

pub returns : goal.returns
returns c = (wrote_then c.put_byte-next.ensures c.put_two.ensures.0, omega (arith, c.put_byte-next.ensures.end, c.put_two.ensures.1))
