-- The loop reads one argument a turn, and notes the one that is asked for (`Noting`).
use Prim.Native.Nat.{◌-◌}
use Rattle.sig_reader.proofs.Found.{Noting}
use Rattle.sig_reader.proofs.argument_from.Given as goal

abbrev pub invariant-loop-next : goal.invariant-loop-next
invariant-loop-next l = Noting l.head.convention l.s l.head.at l.head.end l.index l.found l.count l.next l.items

abbrev pub decreases-loop-next : goal.decreases-loop-next
decreases-loop-next l = l.head.end - l.next
