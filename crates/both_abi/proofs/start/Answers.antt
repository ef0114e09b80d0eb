-- The start by the convention's rules. Assumes nothing.
use Rattle.both_abi.proofs.start.Goals as goal

pub start-requires : goal.start-requires
start-requires c = c.frame_rules_of.ensures

pub returns : goal.returns
returns c = c.start.ensures
