-- The GPRs that the argument uses up are those of its words.
use Rattle.plan_power_step.proofs.next_of.Goals as goal

pub returns : goal.returns
returns c = rw (← c.requires.1.held)
