-- The loop reads, places and keeps one argument a turn; reading on from here gives all of them, and the sizes and the rows are those of the arguments
-- so far (`Keeping`).
use Prim.Native.Nat.{◌-◌}
use Rattle.call_arguments.proofs.Kept.{Keeping}
use Rattle.call_arguments.proofs.keep_arguments.Given as goal

abbrev pub invariant-loop-next : goal.invariant-loop-next
invariant-loop-next l = Keeping l.head.convention l.head.ellipsis l.s l.head.at l.head.end l.initial.c l.initial.kept l.c l.kept l.values l.unclear l.count l.next l.items

abbrev pub decreases-loop-next : goal.decreases-loop-next
decreases-loop-next l = l.head.end - l.next
