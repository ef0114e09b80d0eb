-- The two readers prove each other, by the depth left. An item is read by its tag; a struct's loop keeps that reading on from
-- here gives the struct's contents.
use Prim.Native.Nat.{◌+◌, ◌-◌}
use Rattle.sig_items.proofs.Loop.{Turn}
use Rattle.sig_nested_items.proofs.+read_item_read_struct.Given as goal

abbrev pub decreases-read_item : goal.decreases-read_item
decreases-read_item l = l.depth + l.depth + 1

abbrev pub decreases-read_struct : goal.decreases-read_struct
decreases-read_struct l = l.depth + l.depth

abbrev pub invariant-read_struct-loop-next : goal.invariant-read_struct-loop-next
invariant-read_struct-loop-next l = Turn l.c l.depth l.s l.at l.end l.fields l.next l.items

abbrev pub decreases-read_struct-loop-next : goal.decreases-read_struct-loop-next
decreases-read_struct-loop-next l = l.end - l.next
