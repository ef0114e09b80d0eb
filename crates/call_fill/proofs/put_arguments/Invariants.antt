-- The loop puts one argument a turn; what it has put and what is left make up the whole (`Going`).
use borrow.Author.Rules.{rules}
use lib.ListN.{length}
use Rattle.call_slots.specs.Buffers.{buffers}
use Rattle.call_kept.specs.Helpers.{kept_all}
use Rattle.call_marshal.specs.Helpers.{CanPut}
use Rattle.call_fill.proofs.Turns.{Going}
use Rattle.call_fill.proofs.put_arguments.Given as goal

abbrev pub invariant-loop-i : goal.invariant-loop-i
invariant-loop-i l = Going l.rules l.base (CanPut l.rules l.base (length l.initial.image) (length l.initial.area) (length l.initial.copies)) (kept_all l.convention l.kept l.count) l.values (buffers l.initial.image l.initial.area l.initial.copies) (buffers l.image l.area l.copies) l.v l.i
