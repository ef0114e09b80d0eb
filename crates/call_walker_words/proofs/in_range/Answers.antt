-- By the three tests in turn. Assumes nothing.
use Prim.Native.Nat.{◌^◌}
use borrow.Author.Tests.{le-leb, lt-leb}
use Rattle.call_walker.specs.Walker.{in_range}
use Rattle.call_walker_words.proofs.in_range.Goals as goal

pub returns-then-k-gt-MAX_COUNTER : goal.returns-then-k-gt-MAX_COUNTER
unfolding in_range
returns-then-k-gt-MAX_COUNTER c = simp (lt-leb _ (2 ^ 32) c.if-k-gt-MAX_COUNTER.true)

pub returns-then-k-gt-MAX_COUNTER-2 : goal.returns-then-k-gt-MAX_COUNTER-2
unfolding in_range
returns-then-k-gt-MAX_COUNTER-2 c = simp (le-leb _ (2 ^ 32) c.if-k-gt-MAX_COUNTER.false, lt-leb _ (2 ^ 32) c.if-k-gt-MAX_COUNTER-2.true)

pub returns : goal.returns
unfolding in_range
returns c = rw (le-leb _ (2 ^ 32) c.if-k-gt-MAX_COUNTER.false, le-leb _ (2 ^ 32) c.if-k-gt-MAX_COUNTER-2.false)
