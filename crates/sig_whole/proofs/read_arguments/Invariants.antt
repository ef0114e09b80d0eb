-- The loop keeps the arguments so far, and that reading on from here gives all of them.
use Prim.Native.Nat.{◌-◌}
use Rattle.sig_signatures.proofs.Loop.{Tabled}
use Rattle.sig_whole.proofs.read_arguments.Given as goal

abbrev pub invariant-loop-next : goal.invariant-loop-next
invariant-loop-next l = Tabled l.head.convention l.s l.head.at l.head.end l.arguments l.count l.next l.items

abbrev pub decreases-loop-next : goal.decreases-loop-next
decreases-loop-next l = l.head.end - l.next
