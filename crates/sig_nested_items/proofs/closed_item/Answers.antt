-- By what closing the fields finds.
use mathlib.Core.Path.{sym, ap, ◌∙◌}
use native.Mathlib.Omega.{arith}
use Rattle.sig_items.specs.Answer.{closed_answer}
use Rattle.sig_nested_items.proofs.closed_item.Goals as goal

pub overflow_sub-result : goal.overflow_sub-result
overflow_sub-result c = omega arith

pub returns-in-Some : goal.returns-in-Some
returns-in-Some c = ap (closed_answer _ _ _) (sym c.in-Some.is ∙ c.close.ensures)

pub returns-in-None : goal.returns-in-None
returns-in-None c = ap (closed_answer _ _ _) (sym c.in-None.is ∙ c.close.ensures)
