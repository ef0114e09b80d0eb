-- An empty place passes nothing. Assumes nothing.
use borrow.Author.Tests.{lt-ltb}
use native.Mathlib.Omega.{arith}
use Rattle.call_walker.specs.Step.{passes}
use Rattle.call_walking.proofs.passes_area.Goals as goal

pub returns-then-memory-eq0 : goal.returns-then-memory-eq0
unfolding passes
returns-then-memory-eq0 c = rw c.if-memory-eq0.true

pub returns : goal.returns
unfolding passes
returns c = rw (lt-ltb 0 c.args.s.memory.length (omega (arith, c.if-memory-eq0.false)))
