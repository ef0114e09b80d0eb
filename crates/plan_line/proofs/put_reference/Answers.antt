-- By the mark.
use Rattle.plan_text.proofs.Writing.{wrote_nothing}
use native.Mathlib.Omega.{arith}
use Rattle.plan_line.proofs.put_reference.Goals as goal

pub returns-then-indirect : goal.returns-then-indirect
returns-then-indirect c = (rw c.if-indirect.true c.put_bytes.ensures, omega (arith, c.put_bytes.ensures.end))

pub returns : goal.returns
returns c = (rw c.if-indirect.false (wrote_nothing _ _), omega arith)
