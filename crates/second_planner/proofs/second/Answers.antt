-- By cases on the outcome.
use mathlib.Core.Path.{◌∙◌}
use Rattle.second_planner.proofs.Answers.{answer-refused}
use Rattle.second_planner.proofs.second.Goals as goal

pub clear_plan-requires : goal.clear_plan-requires
clear_plan-requires c = (c.requires, c.in-Ok.is)

pub returns-in-Err : goal.returns-in-Err
returns-in-Err c = c.no_plan.ensures ∙ answer-refused _ _ _ c.requires c.in-Err.is

pub returns-in-Ok : goal.returns-in-Ok
returns-in-Ok c = c.clear_plan.ensures
