-- The reader's answer, planned.
use Rattle.plan_planning.proofs.plan_of.Goals as goal

pub plan_call-requires : goal.plan_call-requires
plan_call-requires c = c.read_signature.ensures

pub returns : goal.returns
returns c = c.plan_call.ensures
