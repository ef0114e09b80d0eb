-- The loop puts one argument a turn; those that are left give what all give (`Homing`).
use lib.ListN.{length}
use Rattle.call_slots.specs.Arguments.{placements_in, rules_in}
use Rattle.call_home.proofs.Registers.{Homing}
use Rattle.call_home.proofs.put_homes.Given as goal

abbrev pub invariant-loop-i : goal.invariant-loop-i
invariant-loop-i l = Homing l.p.area (length l.image) (rules_in l.g) (placements_in l.g l.p) l.image l.initial.area l.area l.i
