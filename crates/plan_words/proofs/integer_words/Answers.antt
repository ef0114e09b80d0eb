-- By the test.
use borrow.Author.Tests.{lt-ltb, le-ltb}
use Rattle.plan_words.proofs.integer_words.Goals as goal

pub returns-then-word-size : goal.returns-then-word-size
returns-then-word-size c = rw (lt-ltb _ _ c.if-word-size.true)

pub returns-else-word-size : goal.returns-else-word-size
returns-else-word-size c = rw (le-ltb _ _ c.if-word-size.false)
