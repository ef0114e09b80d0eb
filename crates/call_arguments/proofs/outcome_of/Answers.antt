-- 29 where there is an unclear argument.
use Rattle.std.proofs.Common.{Err}
use borrow.Author.Rules.{rules}
use native.Mathlib.Omega.{arith}
use mathlib.Core.Path.{ap, ◌∙◌}
use Rattle.sig_items.specs.declared.Fault.{Fault}
use Rattle.call_arguments.specs.Helpers.{outcome_by}
use Rattle.call_arguments.proofs.Kept.{unclear-by}
use Rattle.call_arguments.proofs.outcome_of.Goals as goal

pub returns-then-unclear-eq0 : goal.returns-then-unclear-eq0
unfolding outcome_by
returns-then-unclear-eq0 c = rw c.if-unclear-eq0.true

pub overflow_sub-unclear : goal.overflow_sub-unclear
overflow_sub-unclear c = omega arith

pub returns-else-unclear-eq0 : goal.returns-else-unclear-eq0
returns-else-unclear-eq0 c = ap Err c.unclear_fault.ensures ∙ unclear-by _ _ _ (omega (arith, c.if-unclear-eq0.false))
