-- By the mark.
use Rattle.plan_text.proofs.Writing.{wrote_nothing}
use native.Mathlib.Omega.{arith}
use Rattle.plan_listing.proofs.put_ellipsis.Goals as goal

pub returns-then-ellipsis : goal.returns-then-ellipsis
returns-then-ellipsis c = (rw c.if-ellipsis.true c.put_bytes.ensures, omega (arith, c.put_bytes.ensures.end))

pub returns : goal.returns
returns c = (rw c.if-ellipsis.false (wrote_nothing _ _), omega arith)
