-- What was made so far is in the stored bytes.
use mathlib.Core.List.{◌++◌}
use lib.ListN.{drop}
use Rattle.plan_stored_items.specs.Places.{result_item}
use Rattle.plan_stored.specs.Stored.{argument_items, plan_bytes}
use Rattle.plan_stored.proofs.Alike.{Abreast}
use Rattle.plan_stored.proofs.alike_plan.Given as goal

abbrev pub invariant-loop-a : goal.invariant-loop-a
invariant-loop-a l = Abreast l.stored (plan_bytes l.s l.fn.p) (argument_items l.rules (drop l.a-index l.a-items) ++ result_item l.fn.p.result) l.next
