-- The label, then the number.
use Rattle.plan_text.proofs.Writing.{wrote_then}
use native.Mathlib.Omega.{arith}
use Rattle.plan_text.proofs.put_labelled.Goals as goal

pub returns : goal.returns
returns c =
    (wrote_then c.put_bytes-next.ensures c.put_decimal.ensures.0, omega (arith, c.put_bytes-next.ensures.end, c.put_decimal.ensures.1))
