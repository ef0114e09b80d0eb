-- The associated constants, and the other numbers as they stand, are the convention's. Assumes nothing.
use Rattle.both_abi.proofs.Aix.frame_rules.Goals as goal

pub returns : goal.returns
returns c = rw (c.power_gpr.ensures, c.power_fpr.ensures)
