-- The lengths of the items so far are added up.
use mathlib.Core.Path.{◌≡◌}
use Prim.Native.Nat.{◌+◌, ◌*◌, ◌≤◌}
use lib.ListN.{length, take}
use Rattle.plan_stored.specs.Stored.{argument_items}
use Rattle.plan_stored.proofs.plan_length.Given as goal

abbrev pub invariant-loop-a : goal.invariant-loop-a
invariant-loop-a l = (l.next ≡ l.initial.next + length (argument_items l.rules (take l.a-index l.a-items))) × (l.next ≤ l.initial.next + 658 * l.a-index)
