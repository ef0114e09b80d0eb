-- By the tests in turn.
use borrow.Author.Tests.{le-leb, lt-leb}
use Rattle.call_walker.specs.Walker.{power_possible}
use Rattle.call_walker_words.proofs.power_possible.Goals as goal

pub returns-then-k-gt13 : goal.returns-then-k-gt13
unfolding power_possible
returns-then-k-gt13 c = simp (lt-leb _ _ c.if-k-gt13.true)

pub returns-then-k-hidden : goal.returns-then-k-hidden
unfolding power_possible
returns-then-k-hidden c = simp (le-leb _ _ c.if-k-gt13.false, lt-leb _ _ c.if-k-hidden.true)

pub returns : goal.returns
unfolding power_possible
returns c = simp (le-leb _ _ c.if-k-gt13.false, le-leb _ _ c.if-k-hidden.false)
