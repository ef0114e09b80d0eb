-- By the tests in turn.
use borrow.Author.Tests.{le-leb, lt-leb, eq-eqb, ne_eqb}
use Rattle.call_walker.specs.Walker.{z_possible}
use Rattle.call_walker_words.proofs.z_possible.Goals as goal

pub returns-then-k-hidden : goal.returns-then-k-hidden
unfolding z_possible
returns-then-k-hidden c = simp (lt-leb _ _ c.if-k-hidden.true)

pub returns-then-k-gt7 : goal.returns-then-k-gt7
unfolding z_possible
returns-then-k-gt7 c = simp (le-leb _ _ c.if-k-hidden.false, lt-leb _ _ c.if-k-gt7.true)

pub returns-then-k-gt8 : goal.returns-then-k-gt8
unfolding z_possible
returns-then-k-gt8 c = simp (le-leb _ _ c.if-k-hidden.false, le-leb _ _ c.if-k-gt7.false, lt-leb _ _ c.if-k-gt8.true)

pub returns-then-k-ne0 : goal.returns-then-k-ne0
unfolding z_possible
returns-then-k-ne0 c = simp (le-leb _ _ c.if-k-hidden.false, le-leb _ _ c.if-k-gt7.false, le-leb _ _ c.if-k-gt8.false, ne_eqb _ _ c.if-k-ne0.true)

pub returns-then-k-lt-AREA_OFFSET : goal.returns-then-k-lt-AREA_OFFSET
unfolding z_possible
returns-then-k-lt-AREA_OFFSET c = simp (le-leb _ _ c.if-k-hidden.false, le-leb _ _ c.if-k-gt7.false, le-leb _ _ c.if-k-gt8.false, eq-eqb _ _ c.if-k-ne0.false, lt-leb _ _ c.if-k-lt-AREA_OFFSET.true)

pub returns-then-k-ne0-2 : goal.returns-then-k-ne0-2
unfolding z_possible
returns-then-k-ne0-2 c = simp (le-leb _ _ c.if-k-hidden.false, le-leb _ _ c.if-k-gt7.false, le-leb _ _ c.if-k-gt8.false, eq-eqb _ _ c.if-k-ne0.false, le-leb _ _ c.if-k-lt-AREA_OFFSET.false, ne_eqb _ _ c.if-k-ne0-2.true)

pub returns-then-k-le-AREA_OFFSET : goal.returns-then-k-le-AREA_OFFSET
unfolding z_possible
returns-then-k-le-AREA_OFFSET c = simp (le-leb _ _ c.if-k-hidden.false, le-leb _ _ c.if-k-gt7.false, le-leb _ _ c.if-k-gt8.false, eq-eqb _ _ c.if-k-ne0.false, le-leb _ _ c.if-k-lt-AREA_OFFSET.false, eq-eqb _ _ c.if-k-ne0-2.false, le-leb _ _ c.if-k-le-AREA_OFFSET.true)

pub returns-then-k-ge7 : goal.returns-then-k-ge7
unfolding z_possible
returns-then-k-ge7 c = simp (le-leb _ _ c.if-k-hidden.false, le-leb _ _ c.if-k-gt7.false, le-leb _ _ c.if-k-gt8.false, eq-eqb _ _ c.if-k-ne0.false, le-leb _ _ c.if-k-lt-AREA_OFFSET.false, eq-eqb _ _ c.if-k-ne0-2.false, lt-leb _ _ c.if-k-le-AREA_OFFSET.false, le-leb _ _ c.if-k-ge7.true)

pub returns : goal.returns
unfolding z_possible
returns c = simp (le-leb _ _ c.if-k-hidden.false, le-leb _ _ c.if-k-gt7.false, le-leb _ _ c.if-k-gt8.false, eq-eqb _ _ c.if-k-ne0.false, le-leb _ _ c.if-k-lt-AREA_OFFSET.false, eq-eqb _ _ c.if-k-ne0-2.false, lt-leb _ _ c.if-k-le-AREA_OFFSET.false, lt-leb _ _ c.if-k-ge7.false)
