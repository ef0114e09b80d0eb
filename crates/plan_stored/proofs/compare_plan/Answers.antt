-- By the common bytes and both lengths.
use native.Mathlib.Omega.{arith}
use Rattle.plan_stored.proofs.Alike.{compared-long, compared-short, compared-all}
use Rattle.plan_stored.proofs.compare_plan.Goals as goal

pub returns-then-place-stored : goal.returns-then-place-stored
returns-then-place-stored c = compared-long _ _ _ c.alike_plan-place.ensures (omega arith)

pub returns-then-place-plan_length : goal.returns-then-place-plan_length
returns-then-place-plan_length c = compared-short _ _ _ c.alike_plan-place.ensures (omega (arith, c.plan_length.ensures))

pub returns : goal.returns
returns c = compared-all _ _ _ c.alike_plan-place.ensures (omega arith) (omega (arith, c.plan_length.ensures))
