-- The places so far are written.
use Prim.Native.Nat.{◌-◌}
use Rattle.plan_stored_items.proofs.Laws.{Going}
use Rattle.plan_stored_items.proofs.put_places.Given as goal

abbrev pub invariant-loop-i : goal.invariant-loop-i
invariant-loop-i l = Going l.q l.initial.bytes l.bytes l.at l.next l.number l.offset (l.q.count - l.i)
