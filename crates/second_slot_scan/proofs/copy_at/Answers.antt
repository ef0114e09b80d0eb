-- By cases on the mark.
use Rattle.base_words.specs.Basics.{round_up}
use native.Mathlib.Omega.{arith}
use Rattle.second_slot_scan.proofs.copy_at.Goals as goal

pub overflow_add-result : goal.overflow_add-result
unfolding round_up
overflow_add-result c = omega (arith, c.round_up-start.ensures)

pub returns-then-reference : goal.returns-then-reference
returns-then-reference c = rw (c.run_of.ensures, c.round_up-start.ensures, c.if-reference.true)

pub returns-else-reference : goal.returns-else-reference
returns-else-reference c = rw c.if-reference.false
