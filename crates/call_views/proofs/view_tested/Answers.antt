-- By the tests in turn.
use mathlib.Core.Path.{sym, ◌∙◌}
use borrow.Author.Tests.{lt-ltb, le-ltb, le-leb, lt-leb}
use Rattle.call_slots.specs.Refusals.{first_of}
use Rattle.call_views.specs.View.{view_tests}
use Rattle.call_views.proofs.view_tested.Goals as goal

pub returns-then-is_homeless : goal.returns-then-is_homeless
unfolding first_of view_tests
returns-then-is_homeless c = simp (sym c.is_homeless.ensures ∙ c.if-is_homeless.true)

pub returns-then-count-index : goal.returns-then-count-index
unfolding first_of view_tests
returns-then-count-index c = simp (sym c.is_homeless.ensures ∙ c.if-is_homeless.false, le-leb _ _ c.if-count-index.true)

pub returns-then-have-area : goal.returns-then-have-area
unfolding first_of view_tests
returns-then-have-area c = simp (sym c.is_homeless.ensures ∙ c.if-is_homeless.false, lt-leb _ _ c.if-count-index.false, lt-ltb _ _ c.if-have-area.true)

pub returns : goal.returns
unfolding first_of view_tests
returns c = simp (sym c.is_homeless.ensures ∙ c.if-is_homeless.false, lt-leb _ _ c.if-count-index.false, le-ltb _ _ c.if-have-area.false)
