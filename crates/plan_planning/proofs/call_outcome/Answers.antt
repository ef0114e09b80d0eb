-- Rules that are always clear leave the reading's outcome.
use mathlib.Core.Path.{sym, ◌∙◌}
use Rattle.plan_plans.proofs.Calls.{none-unclear, clear-outcome}
use Rattle.plan_planning.proofs.call_outcome.Goals as goal

pub returns-then-always_clear : goal.returns-then-always_clear
returns-then-always_clear c =
    clear-outcome _ _ c.requires
    (none-unclear _ _ (rw c.call_rules_of.ensures at (sym c.always_clear.ensures ∙ c.if-always_clear.true)) _ _ _)
