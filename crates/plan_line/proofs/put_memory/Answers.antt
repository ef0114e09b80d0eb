-- The word stands where some bytes do.
use Rattle.plan_text.proofs.Writing.{wrote_nothing}
use borrow.Author.Tests.{lt-ltb, le-ltb}
use native.Mathlib.Omega.{arith}
use Rattle.plan_line.proofs.put_memory.Goals as goal

pub returns-then-memory-gt0 : goal.returns-then-memory-gt0
returns-then-memory-gt0 c = (rw (lt-ltb 0 c.args.s.memory.length (omega arith)) c.put_place.ensures.0, omega (arith, c.put_place.ensures.1))

pub returns : goal.returns
returns c = (rw (le-ltb 0 c.args.s.memory.length (omega arith)) (wrote_nothing _ _), omega arith)
