-- The lines so far are written.
use Rattle.plan_text.specs.Writing.{Wrote}
use Rattle.plan_listing.specs.Text.{lines_text}
use lib.ListN.{take}
use Prim.Native.Nat.{◌+◌, ◌*◌, ◌≤◌}
use Rattle.plan_listing.proofs.put_lines.Given as goal

abbrev pub invariant-loop-i : goal.invariant-loop-i
invariant-loop-i l = Wrote l.initial.text l.text l.initial.next l.next (lines_text l.fn.p.convention 0 (take l.i (take l.fn.p.count l.fn.p.spans))) × (l.next ≤ 64 + 2100 * l.i)
