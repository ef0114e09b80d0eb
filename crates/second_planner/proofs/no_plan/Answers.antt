-- The table is the one of no parameters.
use Rattle.second_planner.proofs.no_plan.Goals as goal

pub returns : goal.returns
returns c = rw c.no_parameters-parameters.ensures
