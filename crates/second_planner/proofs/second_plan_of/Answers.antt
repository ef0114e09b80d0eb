-- The reader's answer, planned.
use Rattle.second_planner.proofs.second_plan_of.Goals as goal

pub second-requires : goal.second-requires
second-requires c = c.read_signature.ensures

pub returns : goal.returns
returns c = c.second.ensures
