-- Words in every way, FPRs where they are left.
use Rattle.plan_places.proofs.Shares.{share-both, share-none}
use Rattle.plan_power_step.proofs.both_of.Goals as goal
use Rattle.plan_power_step.proofs.both_of.Goals.{then-room-m, else-room-m}

pub returns : goal.returns
returns c = elim c.if-room-m.branch [
  | then-room-m w ↦ rw w.floating-is (share-none _ _ _ _ w.if-room-m.true)
  | else-room-m w ↦ rw w.floating-is (share-both _ _ _ _ w.if-room-m.false)
]
