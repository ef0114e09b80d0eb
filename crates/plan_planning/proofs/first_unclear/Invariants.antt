-- The loop looks at one argument a turn; what it found and what is left give the first of all (`Clearing`).
use Rattle.sig_signatures.specs.Types.{types_in}
use Rattle.plan_plans.proofs.Calls.{Clearing}
use Rattle.plan_planning.proofs.first_unclear.Given as goal

abbrev pub invariant-loop-i : goal.invariant-loop-i
invariant-loop-i l = Clearing l.fn.g.convention l.rules l.initial.c (types_in l.fn.g) l.c l.unclear l.i
