-- The counters are too large, or no arguments lead to them. Assumes nothing.
use borrow.Author.Tests.{not-true, not-false}
use Rattle.call_walker.specs.Walker.{lost}
use Rattle.call_walker_words.proofs.is_lost.Goals as goal

pub returns-then-not-in_range : goal.returns-then-not-in_range
unfolding lost
returns-then-not-in_range c = rw (← c.in_range.ensures, not-true c.in_range.result c.if-not-in_range.true-raw)

pub returns : goal.returns
unfolding lost
returns c = rw (← c.in_range.ensures, not-false c.in_range.result c.if-not-in_range.false-raw, ← c.call_rules_of-r.ensures, ← c.is_possible.ensures)
