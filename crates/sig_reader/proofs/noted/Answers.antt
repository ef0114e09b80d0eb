-- By the test.
use borrow.Author.Tests.{eq-eqb, ne_eqb}
use Rattle.sig_reader.proofs.noted.Goals as goal

pub returns-then-index-count : goal.returns-then-index-count
returns-then-index-count c = rw (eq-eqb _ _ c.if-index-count.true)

pub returns : goal.returns
returns c = rw (ne_eqb _ _ c.if-index-count.false)
