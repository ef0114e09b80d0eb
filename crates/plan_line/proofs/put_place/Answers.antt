-- A register is its bank's mark and its number.
use Rattle.plan_text.proofs.Writing.{wrote_then}
use native.Mathlib.Omega.{arith}
use Rattle.plan_line.proofs.put_place.Goals as goal

pub returns-in-Register : goal.returns-in-Register
returns-in-Register c =
    (rw c.in-Register.is (wrote_then (rw c.mark_of.ensures.0 at c.put_bytes-next.ensures) c.put_decimal.ensures.0), omega (arith, c.mark_of.ensures.1, c.put_bytes-next.ensures.end, c.put_decimal.ensures.1))

pub returns-in-Memory : goal.returns-in-Memory
returns-in-Memory c = (rw c.in-Memory.is c.put_bytes.ensures, omega (arith, c.put_bytes.ensures.end))
