-- The loop takes the value of one argument a turn; those that are left give what all give (`Taking`).
use borrow.Author.Rules.{rules}
use Rattle.call_slots.specs.Buffers.{buffers}
use Rattle.call_kept.specs.Helpers.{kept_all}
use Rattle.call_unmarshal.proofs.Turns.{Taking}
use Rattle.call_unmarshal.proofs.take_arguments.Given as goal

abbrev pub invariant-loop-i : goal.invariant-loop-i
invariant-loop-i l = Taking l.rules l.base (kept_all l.convention l.kept l.count) (buffers l.image l.area l.copies) l.initial.values l.values l.v l.i
