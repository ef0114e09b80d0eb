-- The table is the one with no arguments.
use Rattle.sig_whole.proofs.refuse.Goals as goal

pub returns : goal.returns
returns c = cc
