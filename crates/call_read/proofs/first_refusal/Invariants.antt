-- The loop checks one argument a turn, or finds that nothing is asked of it; those that are left give what all give (`Checking`).
use borrow.Author.Rules.{rules}
use lib.ListN.{length}
use Rattle.call_slots.specs.Buffers.{buffers}
use Rattle.call_slots.specs.Placements.{Placement}
use Rattle.call_slots.proofs.Turns.{Checking}
use Rattle.call_kept.specs.Helpers.{kept_all}
use Rattle.call_unmarshal.specs.Helpers.{InBuffers}
use Rattle.call_read.specs.Read.{argument_answer}
use Rattle.call_read.proofs.first_refusal.Given as goal

abbrev pub invariant-loop-i : goal.invariant-loop-i
invariant-loop-i l = Checking (λ (q : Placement). argument_answer l.rules l.base q (buffers l.image l.area l.copies)) (InBuffers l.rules (length l.image) (length l.area)) (kept_all l.convention l.kept l.count) l.i
