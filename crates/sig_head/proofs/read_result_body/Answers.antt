-- No body is no result; else one type, and nothing after it.
use Rattle.std.proofs.Common.{Err}
use mathlib.Core.Path.{sym, ap, ◌∙◌}
use native.Mathlib.Omega.{arith}
use Rattle.sig_items.proofs.Loop.{item-answered, fault-answered}
use Rattle.sig_signatures.specs.Answer.{result_answer}
use Rattle.sig_signatures.proofs.Laws.{result-none, result-no, result-more, result-one}
use Rattle.sig_head.proofs.read_result_body.Goals as goal

pub returns-then-at-end : goal.returns-then-at-end
returns-then-at-end c = sym (ap (result_answer _) (result-none _ _ _ _ c.if-at-end.true))

pub later_by-requires : goal.later_by-requires
later_by-requires c = let a = fault-answered _ _ _ _ _ _ _ (omega arith) c.read_item.ensures c.in-Err.is in omega arith

pub overflow_add-counted : goal.overflow_add-counted
overflow_add-counted c = let a = item-answered _ _ _ _ _ _ _ _ _ (omega arith) c.read_item.ensures c.in-Ok.is in omega arith

pub returns-then-item-end : goal.returns-then-item-end
returns-then-item-end c = sym (ap (result_answer _) (result-more _ _ _ _ c.if-at-end.false _ c.read_item.ensures _ _ _ c.in-Ok.is c.if-item-end.true))

pub returns-in-Err : goal.returns-in-Err
returns-in-Err c = ap Err c.later_by.ensures ∙ sym (ap (result_answer _) (result-no _ _ _ _ c.if-at-end.false _ c.read_item.ensures _ c.in-Err.is))

pub returns-else-item-end : goal.returns-else-item-end
returns-else-item-end c = sym (result-one _ _ _ _ c.if-at-end.false _ c.read_item.ensures _ _ _ c.in-Ok.is c.if-item-end.false)
