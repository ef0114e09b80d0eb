-- The loop plans one argument a turn; what it has planned and what is left make up the whole fold (`Going`).
use Rattle.sig_signatures.specs.Types.{types_in}
use Rattle.plan_plans.proofs.Turns.{Going, Kept}
use Rattle.plan_planning.proofs.plan_signature.Given as goal

abbrev pub invariant-loop-i : goal.invariant-loop-i
invariant-loop-i l = Going l.fn.g.convention l.rules l.initial.c (types_in l.fn.g) l.plan.spans l.c l.values l.i × Kept l.initial.plan l.plan
