-- The items so far are written.
use Prim.Native.Nat.{◌+◌, ◌*◌, ◌≤◌}
use lib.ListN.{take}
use Rattle.plan_text.specs.Writing.{Wrote}
use Rattle.plan_stored.specs.Stored.{argument_items}
use Rattle.plan_stored.proofs.put_plan.Given as goal

abbrev pub invariant-loop-a : goal.invariant-loop-a
invariant-loop-a l = Wrote l.initial.bytes l.bytes l.initial.next l.next (argument_items l.rules (take l.a-index l.a-items)) × (l.next ≤ 16387 + 658 * l.a-index)
