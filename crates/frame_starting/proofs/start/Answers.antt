-- The memory is tested first; the start's room lies in it. Assumes nothing.
use Rattle.frame_rules.proofs.Places.{limit-64}
use Rattle.frame_saves.specs.Saves.{store}
use Rattle.frame_machine.proofs.States.{memory-yes}
use Rattle.frame_machine.proofs.Outcomes.{start-accepted, start-refused, accepted-start, refused-start}
use Rattle.frame_machine.specs.declared.FrameRefusal.TheVariants.{BadMemory}
use Rattle.frame_rules.specs.Helpers.{LawfulFrames}
use Rattle.frame_rules.specs.Rules.{rules}
use Rattle.frame_machine.specs.Machine.{ok_memory, started, started_memory, not_started}
use Rattle.frame_rules.proofs.Conventions.{lawful}
use lib.ListN.{length}
use mathlib.Core.Bool.{true, false}
use borrow.Author.Tests.{not-true, not-false}
use Prim.Native.Nat.{◌+◌, ◌-◌}
use native.Mathlib.Omega.{arith}
use mathlib.Core.Path.{◌≡◌, sym, ◌∙◌}
use Rattle.frame_starting.proofs.start.Goals as goal

pub memory_ok-requires : goal.memory_ok-requires
memory_ok-requires c =
    rw c.requires (lawful c.args.c)

pub returns-then-not-memory_ok : goal.returns-then-not-memory_ok
unfolding not_started
returns-then-not-memory_ok c =
    let no : ok_memory (rules c.args.c) c.args.base (length c.args.memory.now) ≡ false
    = sym (rw c.requires at c.memory_ok.ensures) ∙ not-true c.memory_ok.result c.if-not-memory_ok.true-raw in
    let e = start-refused c.args.c c.args.base c.args.memory.now c.args.registers BadMemory (refused-start c.args.c c.args.base (length c.args.memory.now) no) in
    record {
      value = sym e.0;
      memory_after = sym e.1;
    }

pub overflow_sub-at : goal.overflow_sub-at
overflow_sub-at c =
    let law : LawfulFrames c.args.k = rw c.requires (lawful c.args.c) in
    let yes = memory-yes c.args.k c.args.base (length c.args.memory.now) (sym c.memory_ok.ensures ∙ not-false c.memory_ok.result c.if-not-memory_ok.false-raw) in
    omega (arith, law.room, yes)

pub overflow_add-base : goal.overflow_add-base
overflow_add-base c =
    let law : LawfulFrames c.args.k = rw c.requires (lawful c.args.c) in
    let yes = memory-yes c.args.k c.args.base (length c.args.memory.now) (sym c.memory_ok.ensures ∙ not-false c.memory_ok.result c.if-not-memory_ok.false-raw) in
    omega (arith, law.room, yes, limit-64 c.args.k law)

pub with_pointer-r-requires : goal.with_pointer-r-requires
with_pointer-r-requires c =
    let law : LawfulFrames c.args.k = rw c.requires (lawful c.args.c) in law.pointer

pub store-requires : goal.store-requires
store-requires c =
    let law : LawfulFrames c.args.k = rw c.requires (lawful c.args.c) in
    let yes = memory-yes c.args.k c.args.base (length c.args.memory.now) (sym c.memory_ok.ensures ∙ not-false c.memory_ok.result c.if-not-memory_ok.false-raw) in
    omega (arith, law.room, law.head, law.chain, yes)

pub returns : goal.returns
unfolding started started_memory store
returns c =
    let law : LawfulFrames c.args.k = rw c.requires (lawful c.args.c) in
    let yes = memory-yes c.args.k c.args.base (length c.args.memory.now) (sym c.memory_ok.ensures ∙ not-false c.memory_ok.result c.if-not-memory_ok.false-raw) in
    let ok : ok_memory (rules c.args.c) c.args.base (length c.args.memory.now) ≡ true
    = sym (rw c.requires at c.memory_ok.ensures) ∙ not-false c.memory_ok.result c.if-not-memory_ok.false-raw in
    let e = start-accepted c.args.c c.args.base c.args.memory.now c.args.registers (accepted-start c.args.c c.args.base (length c.args.memory.now) ok) in
    let at : c.args.base + (length c.args.memory.now - c.args.k.room) ≡ c.args.base + length c.args.memory.now - c.args.k.room
    = omega (arith, law.room, yes) in
    record {
      value = rw (c.with_pointer-r.ensures, c.clear-handed.ensures, at, c.requires) (sym e.0);
      memory_after = rw (c.store.ensures, c.requires) (sym e.1);
    }
