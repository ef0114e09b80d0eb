-- A law for each way.
use mathlib.Core.Path.{sym, ◌∙◌}
use Rattle.second_structure.proofs.Laws.{laid-words, laid-nothing, laid-open, laid-floats, laid_both}
use native.Mathlib.Omega.{arith}
use Rattle.second_structure.proofs.lay_over.Goals as goal

pub returns-then-asked-eq0 : goal.returns-then-asked-eq0
returns-then-asked-eq0 c = c.over_words.ensures ∙ sym (laid-words _ _ _ _ _ c.if-asked-eq0.true)

pub returns-then-ellipsis : goal.returns-then-ellipsis
returns-then-ellipsis c = c.over_words-then-ellipsis.ensures ∙ rw c.run_of-fprs.ensures (sym (laid_both _ _ _ _ _ c.if-ellipsis.true c.if-asked-eq0.false (omega arith)))

pub returns-else-ellipsis : goal.returns-else-ellipsis
returns-else-ellipsis c = c.over_floats.ensures ∙ rw c.run_of-fprs.ensures (sym (laid-floats _ _ _ _ _ c.if-ellipsis.false c.if-asked-eq0.false (omega arith)))

pub returns-then-ellipsis-2 : goal.returns-then-ellipsis-2
returns-then-ellipsis-2 c = c.over_words-then-ellipsis-2.ensures ∙ sym (laid-open _ _ _ _ _ c.if-ellipsis-2.true c.if-asked-eq0.false (omega arith))

pub returns-else-ellipsis-2 : goal.returns-else-ellipsis-2
returns-else-ellipsis-2 c = c.over_nothing.ensures ∙ sym (laid-nothing _ _ _ _ _ c.if-ellipsis-2.false c.if-asked-eq0.false (omega arith))
