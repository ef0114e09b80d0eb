-- The answer decides: an accepted write is put at the head of the part that starts at its offset. Assumes nothing.
use Rattle.base_words.proofs.Splices.{lent-tail}
use Rattle.frame_machine.proofs.Areas.{address-yes}
use Rattle.frame_machine.proofs.States.{write-memory-yes}
use Rattle.frame_machine.proofs.Outcomes.{write-memory-accepted, write-memory-refused}
use Rattle.frame_machine.specs.Machine.{written_memory}
use Rattle.frame_rules.specs.Helpers.{LawfulFrames}
use Rattle.frame_rules.proofs.Conventions.{lawful}
use lib.ListN.{length, length-take, length-drop}
use Prim.Native.Nat.{◌-◌, ◌≤◌}
use native.Mathlib.Omega.{arith}
use mathlib.Core.Path.{sym, ◌∙◌}
use borrow.Author.Rules.{rules}
use Rattle.frame_calls.proofs.write_memory.Goals as goal

pub judge_write_memory-requires : goal.judge_write_memory-requires
judge_write_memory-requires c =
    rw c.frame_rules_of-k.ensures (lawful c.args.s.convention)

pub overflow_sub-at : goal.overflow_sub-at
overflow_sub-at c =
    let law : LawfulFrames c.frame_rules_of-k.result = rw c.frame_rules_of-k.ensures (lawful c.args.s.convention) in
    let y = write-memory-yes c.frame_rules_of-k.result c.args.s (length c.args.memory.now) c.args.address (length c.args.bytes.now) (sym c.in-Ok.ensures) in
    let at = address-yes c.frame_rules_of-k.result law c.args.s (length c.args.memory.now) y.0 c.args.address (length c.args.bytes.now) y.1 in
    at.0

pub slice_bounds-put-count : goal.slice_bounds-put-count
slice_bounds-put-count c =
    let law : LawfulFrames c.frame_rules_of-k.result = rw c.frame_rules_of-k.ensures (lawful c.args.s.convention) in
    let y = write-memory-yes c.frame_rules_of-k.result c.args.s (length c.args.memory.now) c.args.address (length c.args.bytes.now) (sym c.in-Ok.ensures) in
    let at = address-yes c.frame_rules_of-k.result law c.args.s (length c.args.memory.now) y.0 c.args.address (length c.args.bytes.now) y.1 in
    omega arith

pub slice_bounds-put-start : goal.slice_bounds-put-start
slice_bounds-put-start c =
    let law : LawfulFrames c.frame_rules_of-k.result = rw c.frame_rules_of-k.ensures (lawful c.args.s.convention) in
    let y = write-memory-yes c.frame_rules_of-k.result c.args.s (length c.args.memory.now) c.args.address (length c.args.bytes.now) (sym c.in-Ok.ensures) in
    let at = address-yes c.frame_rules_of-k.result law c.args.s (length c.args.memory.now) y.0 c.args.address (length c.args.bytes.now) y.1 in
    let h : c.args.address - c.args.s.base ≤ length c.args.memory.now = omega arith in
    search rules

pub put-requires : goal.put-requires
put-requires c =
    let law : LawfulFrames c.frame_rules_of-k.result = rw c.frame_rules_of-k.ensures (lawful c.args.s.convention) in
    let y = write-memory-yes c.frame_rules_of-k.result c.args.s (length c.args.memory.now) c.args.address (length c.args.bytes.now) (sym c.in-Ok.ensures) in
    let at = address-yes c.frame_rules_of-k.result law c.args.s (length c.args.memory.now) y.0 c.args.address (length c.args.bytes.now) y.1 in
    simp (length-take, length-drop) (omega arith)

pub returns-in-Err : goal.returns-in-Err
returns-in-Err c =
    let e = write-memory-refused c.args.s c.args.memory.now c.args.address c.args.bytes.now _ (rw c.frame_rules_of-k.ensures at (sym c.in-Err.ensures)) in
    record {
      value = sym e.0;
      memory_after = sym e.1;
    }

pub returns-in-Ok : goal.returns-in-Ok
unfolding written_memory
returns-in-Ok c =
    let e = write-memory-accepted c.args.s c.args.memory.now c.args.address c.args.bytes.now (rw c.frame_rules_of-k.ensures at (sym c.in-Ok.ensures)) in
    record {
      value = sym e.0;
      memory_after = rw c.put.ensures (lent-tail c.args.memory.now (c.args.address - c.args.s.base) c.args.bytes.now) ∙ sym e.1;
    }
