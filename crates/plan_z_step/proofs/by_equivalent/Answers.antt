-- By cases on the equivalent float.
use Rattle.plan_z_step.proofs.by_equivalent.Goals as goal

pub returns-in-Nothing : goal.returns-in-Nothing
returns-in-Nothing c = rw c.in-Nothing.is c.by_size.ensures
