-- The registers so far are written.
use Rattle.plan_text.specs.Writing.{Wrote}
use Rattle.plan_line.specs.Line.{places_text}
use Rattle.plan_places.specs.Places.{registers_of}
use lib.ListN.{take}
use Prim.Native.Nat.{◌+◌, ◌*◌, ◌≤◌}
use Rattle.plan_line.proofs.put_registers.Given as goal

abbrev pub invariant-loop-i : goal.invariant-loop-i
invariant-loop-i l = Wrote l.initial.text l.text l.at l.next (places_text (take l.i (registers_of l.s))) × (l.next ≤ l.at + 22 * l.i)
