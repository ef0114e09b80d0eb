-- By the tests in turn. Assumes nothing.
use borrow.Author.Tests.{eq-eqb, ne_eqb}
use Rattle.call_slots.specs.Refusals.{first_of}
use Rattle.call_walker.specs.Step.{step_tests}
use Rattle.call_walking.proofs.tested.Goals as goal

pub returns-then-image-ne-IMAGE_BYTES : goal.returns-then-image-ne-IMAGE_BYTES
unfolding first_of step_tests
returns-then-image-ne-IMAGE_BYTES c = rw (ne_eqb _ 512 c.if-image-ne-IMAGE_BYTES.true)

pub returns-then-value-n : goal.returns-then-value-n
unfolding first_of step_tests
returns-then-value-n c = rw (eq-eqb _ 512 c.if-image-ne-IMAGE_BYTES.false, ne_eqb _ _ c.if-value-n.true)

pub returns-then-passes_area : goal.returns-then-passes_area
unfolding first_of step_tests
returns-then-passes_area c = rw (eq-eqb _ 512 c.if-image-ne-IMAGE_BYTES.false, eq-eqb _ _ c.if-value-n.false, ← c.passes_area.ensures, c.if-passes_area.true)

pub returns : goal.returns
unfolding first_of step_tests
returns c = rw (eq-eqb _ 512 c.if-image-ne-IMAGE_BYTES.false, eq-eqb _ _ c.if-value-n.false, ← c.passes_area.ensures, c.if-passes_area.false)
