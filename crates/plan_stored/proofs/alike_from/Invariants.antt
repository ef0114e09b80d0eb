-- The bytes so far are the same.
use Rattle.plan_stored.proofs.Alike.{Even}
use Rattle.plan_stored.proofs.alike_from.Given as goal

abbrev pub invariant-loop-i : goal.invariant-loop-i
invariant-loop-i l = Even l.stored l.part l.at l.i
