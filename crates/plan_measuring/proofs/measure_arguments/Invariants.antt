-- The loop reads and places one argument a turn; reading on from here gives all of them, and the cursor and the size are those of
-- the arguments so far (`Measuring`).
use borrow.Author.Rules.{rules}
use Prim.Native.Nat.{◌-◌}
use Rattle.plan_plans.proofs.Measures.{Measuring}
use Rattle.plan_measuring.proofs.measure_arguments.Given as goal

abbrev pub invariant-loop-next : goal.invariant-loop-next
invariant-loop-next l = Measuring l.convention l.s l.at l.end l.rules l.initial.c l.c l.values l.unclear l.count l.next l.items

abbrev pub decreases-loop-next : goal.decreases-loop-next
decreases-loop-next l = l.end - l.next
