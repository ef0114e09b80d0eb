-- By the words' width.
use borrow.Author.Tests.{eq-eqb, ne_eqb}
use Rattle.call_slots.specs.Forms.{struct_at_head}
use Rattle.call_slots.proofs.struct_at_head.Goals as goal

pub returns-then-word-ne8 : goal.returns-then-word-ne8
unfolding struct_at_head
returns-then-word-ne8 c = rw (ne_eqb _ _ c.if-word-ne8.true)

pub returns-else-word-ne8 : goal.returns-else-word-ne8
unfolding struct_at_head
returns-else-word-ne8 c = rw (eq-eqb _ _ c.if-word-ne8.false)
