-- The loop tests one argument a turn; those that are left give what all give (`Checking`).
use Rattle.call_home_slot.specs.Homes.{register_answer}
use Rattle.call_home_slot.specs.Helpers.{Registered}
use lib.ListN.{length}
use Rattle.call_slots.specs.Placements.{Placement}
use Rattle.call_slots.specs.Arguments.{placements_in, rules_in}
use Rattle.call_slots.proofs.Turns.{Checking}
use Rattle.call_home.proofs.first_unwidened.Given as goal

abbrev pub invariant-loop-i : goal.invariant-loop-i
invariant-loop-i l = Checking (λ (q : Placement). register_answer (rules_in l.g) q.ty q.span l.image) (Registered (rules_in l.g) l.p.area (length l.image)) (placements_in l.g l.p) l.i
