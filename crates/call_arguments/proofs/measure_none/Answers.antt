-- As the loop would end before its first turn.
use native.Mathlib.Omega.{arith}
use mathlib.Core.Path.{refl, ◌∙◌}
use Rattle.sig_signatures.proofs.Sound.{head-bounded}
use Rattle.call_arguments.proofs.Kept.{none-trailing, none_end}
use Rattle.call_arguments.proofs.measure_none.Goals as goal

pub overflow_add-counted : goal.overflow_add-counted
overflow_add-counted c = let k = head-bounded _ _ _ _ _ _ _ _ refl c.requires.1 in omega arith

pub returns-then-head-sig : goal.returns-then-head-sig
returns-then-head-sig c = c.no_measure.ensures ∙ none-trailing _ _ _ _ _ _ c.requires.1 c.if-head-sig.true

pub returns : goal.returns
returns c = rw (c.area_of-area.ensures, c.first_cursor-c.ensures) (none_end _ _ _ _ _ _ c.requires.1 c.if-head-sig.false)
