-- Each part is the definition's, at the same numbers.
use Rattle.plan_z_step.proofs.next_of.Goals as goal

pub returns : goal.returns
returns c = rw c.stored.ensures
