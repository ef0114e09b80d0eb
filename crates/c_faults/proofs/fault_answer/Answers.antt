-- The number is the reason's.
use Rattle.c_faults.specs.Faults.{fault_answer}
use Rattle.c_faults.proofs.fault_answer.Goals as goal

pub returns : goal.returns
unfolding fault_answer
returns c = rw c.from.ensures
