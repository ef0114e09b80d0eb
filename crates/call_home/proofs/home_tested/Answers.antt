-- By the tests in turn.
use mathlib.Core.Path.{sym, ◌∙◌}
use borrow.Author.Tests.{eq-eqb, ne_eqb, lt-ltb, le-ltb}
use Rattle.call_slots.specs.Refusals.{first_of}
use Rattle.call_home.specs.Home.{home_tests}
use Rattle.call_home.proofs.home_tested.Goals as goal

pub returns-then-is_homeless : goal.returns-then-is_homeless
unfolding first_of home_tests
returns-then-is_homeless c = simp (sym c.is_homeless.ensures ∙ c.if-is_homeless.true)

pub returns-then-image-ne-IMAGE_BYTES : goal.returns-then-image-ne-IMAGE_BYTES
unfolding first_of home_tests
returns-then-image-ne-IMAGE_BYTES c = simp (sym c.is_homeless.ensures ∙ c.if-is_homeless.false, ne_eqb _ _ c.if-image-ne-IMAGE_BYTES.true)

pub returns-then-lent-area : goal.returns-then-lent-area
unfolding first_of home_tests
returns-then-lent-area c = simp (sym c.is_homeless.ensures ∙ c.if-is_homeless.false, eq-eqb _ _ c.if-image-ne-IMAGE_BYTES.false, lt-ltb _ _ c.if-lent-area.true)

pub returns : goal.returns
unfolding first_of home_tests
returns c = simp (sym c.is_homeless.ensures ∙ c.if-is_homeless.false, eq-eqb _ _ c.if-image-ne-IMAGE_BYTES.false, le-ltb _ _ c.if-lent-area.false)
