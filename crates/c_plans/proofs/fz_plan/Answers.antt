-- By the outcome; the table is what the plan's writer left.
use Rattle.c_plans.proofs.Laws.{accepted-plan, refused-plan}
use Rattle.c_plans.proofs.fz_plan.Goals as goal

pub returns-in-Err : goal.returns-in-Err
returns-in-Err c = (refused-plan _ _ c.plan_words-p.ensures.value _ c.in-Err.is _ c.fault_answer.ensures, c.plan_words-p.ensures.places_after)

pub returns-in-Ok : goal.returns-in-Ok
returns-in-Ok c =
    (accepted-plan _ _ c.plan_words-p.ensures.value _ c.in-Ok.is _ c.from.ensures _ c.from-in-Ok.ensures, c.plan_words-p.ensures.places_after)
