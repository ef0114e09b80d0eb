-- By the tests in turn.
use mathlib.Core.Path.{sym, ◌∙◌}
use borrow.Author.Tests.{eq-eqb, ne_eqb, lt-ltb, le-ltb}
use Rattle.call_slots.specs.Refusals.{first_of}
use Rattle.call_fill.specs.Fill.{fill_tests}
use Rattle.call_fill.proofs.tested.Goals as goal

pub returns-then-have-ne-IMAGE_BYTES : goal.returns-then-have-ne-IMAGE_BYTES
unfolding first_of fill_tests
returns-then-have-ne-IMAGE_BYTES c = simp (ne_eqb _ _ c.if-have-ne-IMAGE_BYTES.true)

pub returns-then-have-values : goal.returns-then-have-values
unfolding first_of fill_tests
returns-then-have-values c = simp (eq-eqb _ _ c.if-have-ne-IMAGE_BYTES.false, ne_eqb _ _ c.if-have-values.true)

pub returns-then-have-area : goal.returns-then-have-area
unfolding first_of fill_tests
returns-then-have-area c = simp (eq-eqb _ _ c.if-have-ne-IMAGE_BYTES.false, eq-eqb _ _ c.if-have-values.false, lt-ltb _ _ c.if-have-area.true)

pub returns-then-bad_copies : goal.returns-then-bad_copies
unfolding first_of fill_tests
returns-then-bad_copies c = simp (eq-eqb _ _ c.if-have-ne-IMAGE_BYTES.false, eq-eqb _ _ c.if-have-values.false, le-ltb _ _ c.if-have-area.false, sym c.bad_copies.ensures ∙ c.if-bad_copies.true)

pub returns-then-high : goal.returns-then-high
unfolding first_of fill_tests
returns-then-high c = simp (eq-eqb _ _ c.if-have-ne-IMAGE_BYTES.false, eq-eqb _ _ c.if-have-values.false, le-ltb _ _ c.if-have-area.false, sym c.bad_copies.ensures ∙ c.if-bad_copies.false, c.if-high.true)

pub returns : goal.returns
unfolding first_of fill_tests
returns c = simp (eq-eqb _ _ c.if-have-ne-IMAGE_BYTES.false, eq-eqb _ _ c.if-have-values.false, le-ltb _ _ c.if-have-area.false, sym c.bad_copies.ensures ∙ c.if-bad_copies.false, c.if-high.false)
