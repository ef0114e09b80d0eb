-- The loop reads and places one argument a turn, as that of `measure_arguments` does; nobody asks which of them is the first unclear one, so that
-- there is some.
use borrow.Author.Rules.{rules}
use Prim.Native.Nat.{◌-◌}
use Rattle.plan_measuring.proofs.Sizing.{Sizing}
use Rattle.plan_measuring.proofs.measure_plain.Given as goal

abbrev pub invariant-loop-place : goal.invariant-loop-place
invariant-loop-place l = Sizing l.convention l.s l.at l.end l.rules l.initial.c l.c l.values l.count l.place l.items

abbrev pub decreases-loop-place : goal.decreases-loop-place
decreases-loop-place l = l.end - l.place
