-- Each part is the definition's.
use Rattle.second_slot_scan.proofs.in_general.Goals as goal

pub returns : goal.returns
returns c = rw c.run_of.ensures
