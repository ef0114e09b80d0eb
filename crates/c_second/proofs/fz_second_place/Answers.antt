-- The table's element, or nothing past its end.
use mathlib.Core.Path.{ap, ◌∙◌}
use Rattle.second_planner.specs.declared.SecondPlan.{SecondPlan}
use Rattle.c_second.specs.Words.{place_at}
use Rattle.c_second.proofs.Laws.{place-within, place-past}
use Rattle.c_second.proofs.fz_second_place.Goals as goal

pub returns-then-i-lt-MAX_ARGUMENTS : goal.returns-then-i-lt-MAX_ARGUMENTS
returns-then-i-lt-MAX_ARGUMENTS c = c.place_words.ensures ∙ place-within _ _ c.if-i-lt-MAX_ARGUMENTS.true ∙ ap (λ (q : SecondPlan). place_at q c.args.index) c.second_plan_of-plan.ensures

pub returns-else-i-lt-MAX_ARGUMENTS : goal.returns-else-i-lt-MAX_ARGUMENTS
returns-else-i-lt-MAX_ARGUMENTS c = c.place_words-else-i-lt-MAX_ARGUMENTS.ensures ∙ place-past _ _ c.if-i-lt-MAX_ARGUMENTS.false
