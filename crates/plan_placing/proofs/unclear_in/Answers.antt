-- The first that was found stays; else this one is it, or there is none yet.
use native.Mathlib.Omega.{arith}
use mathlib.Core.Path.{sym, ◌∙◌}
use Rattle.plan_places.proofs.Bounds.{unclear-kept, unclear-found, unclear-none}
use Rattle.plan_placing.proofs.unclear_in.Goals as goal

pub returns-then-unclear-ne0 : goal.returns-then-unclear-ne0
returns-then-unclear-ne0 c = unclear-kept _ _ _ (omega arith)

pub returns-then-unclear_for : goal.returns-then-unclear_for
returns-then-unclear_for c = unclear-found _ _ _ (omega arith) (sym c.unclear_for.ensures ∙ c.if-unclear_for.true)

pub returns-else-unclear_for : goal.returns-else-unclear_for
returns-else-unclear_for c = unclear-none _ _ _ (omega arith) (sym c.unclear_for.ensures ∙ c.if-unclear_for.false)
