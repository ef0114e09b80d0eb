-- No. 13's promise, proved from the invariant of demand 3: it holds after every list of calls, and in a memory with it each back chain leads to the next open frame.
-- Assumes nothing.
use Prim.Native.Nat.{ℕ, suc, ◌+◌, ◌-◌, ◌^◌, ◌≤◌}
use mathlib.Core.Path.{◌≡◌, refl, sym, ap, ◌∙◌, subst}
use mathlib.Core.Bool.{false}
use mathlib.Core.List.{List, [], ◌∷◌}
use native.Mathlib.Omega.{arith}
use lib.ListN.{length}
use borrow.Author.Tests.{le-leb}
use Rattle.base_words.specs.Basics.{All}
use Rattle.base_conventions.specs.declared.Convention.{Convention}
use Rattle.frame_rules.specs.declared.FrameRules.{FrameRules}
use Rattle.frame_rules.specs.Rules.{rules}
use Rattle.frame_rules.specs.Helpers.{LawfulFrames}
use Rattle.frame_rules.proofs.Conventions.{lawful}
use Rattle.frame_rules.proofs.Places.{limit-64}
use Rattle.std.specs.Prelude.{Ok}
use Rattle.frame_machine.specs.Machine.{stack_pointer, start_outcome}
use Rattle.frame_machine.proofs.States.{memory-yes}
use Rattle.frame_word_layout.specs.Words.{machine_words, registers_words, registers_in}
use Rattle.frame_word_layout.proofs.Theorems.{start-state}
use Rattle.frame_history.specs.Calls as states
use Rattle.frame_history.specs.Preserved.{OpenEnter, open_after, caller_of, CallHolds, CallsFit}
use Rattle.frame_history.proofs.Invariant.{Invariant, base-of}
use Rattle.frame_history.proofs.Theorem.{step, start-invariant}
use Rattle.frame_word_history.specs.Calls.{Call, Lent, answer, after, fresh, run}
use Rattle.frame_word_history.specs.Demand3.{machine_in, call_in, calls_in, WordsFit, opened_by}
use Rattle.frame_word_history.proofs.Theorem.{reading-after, answer-read, words-length, start-length, registers-fit}
use Rattle.frame_dump.specs.Walk.{frames, walk, walk_into, max_frames}
use Rattle.frame_dump_history.specs.Shown.{shown, pointer_in, WalkShows}
use Rattle.frame_dump_history.proofs.Pointers.{callers, callers-length, Stands, stands-step}
use Rattle.frame_dump_history.proofs.Chains.{chains}
use Rattle.frame_dump_history.proofs.Walking.{Aligned, aligned, memory-walk}

-- ---- a machine with the invariant

-- as many enters are open as frames are entered
open-count : (k : FrameRules) (os : List OpenEnter) (m : states.Machine) → Invariant k os m → length os ≡ m.state.depth
open-count k [] m i = sym i.1
open-count k (o ∷ os) m i = omega (arith, open-count k os o.before i.2, i.1.deep)

memory-walked : (k : FrameRules) → LawfulFrames k → Aligned k → (os : List OpenEnter) (m : states.Machine) → Invariant k os m → (caller_of k os).leaf ≡ false
    → walk k m.state.base m.memory (stack_pointer k m.state) ≡ frames (stack_pointer k m.state ∷ callers k os)
unfolding walk
memory-walked k law even os m i z =
    let y = (base-of k os m i).sound in
    let top : m.state.base + length m.memory ≤ 2 ^ 64 - 1 = omega (arith, y.length, memory-yes k m.state.base m.state.size y.memory, limit-64 k law) in
    rw (le-leb (m.state.base + length m.memory) (2 ^ 64 - 1) top)
    (memory-walk k law even os m m.memory max_frames 0 i z (chains k law os m i z) y.length (omega (arith, open-count k os m i, y.shallow)) (omega arith))

-- ---- a list of exported calls

-- the invariant of what is lent, with the enters os open, and what stands at their pointers
pub record Kept (k : FrameRules) (os : List OpenEnter) (m : Lent) (p : ℕ) : Type 0 where
  pub words : length m.words ≡ machine_words
  pub invariant : Invariant k os (machine_in m)
  pub stands : Stands k os (machine_in m) p

run-keeps : (k : FrameRules) → LawfulFrames k → (cs : List Call) → CallsFit (calls_in cs) → (os : List OpenEnter) (m : Lent) (p : ℕ) → Kept k os m p → Kept k (opened_by cs m os) (run cs m) p
unfolding run opened_by All
run-keeps k law [] w os m p i = i
run-keeps k law (c ∷ cs) w os m p i =
    let e = reading-after c m i.words in
    let os' = open_after (call_in c) (answer c m) (machine_in m) os in
    let r = step k law (call_in c) w.0 os (machine_in m) i.invariant (answer c m) (sym (answer-read c m)) in
    run-keeps k law cs w.1 os' (after c m) p
    (record {
      words = words-length c m ∙ i.words;
      invariant = subst (λ (n : states.Machine). Invariant k os' n) (sym e) r.1;
      stands = subst (λ (n : states.Machine). Stands k os' n p) (sym e)
          (stands-step k (call_in c) os (machine_in m) p i.invariant (answer c m) (sym (answer-read c m)) r.0 r.1 i.stands);
    })

-- an accepted start has it, with no enter open
start-kept : (c : Convention) (b : ℕ) (l rs : List ℕ) → WordsFit registers_words rs → (start_outcome c b (length l) (registers_in rs 0)).answer ≡ Ok tt
    → Kept (rules c) [] (fresh c b l rs) (pointer_in (rules c) (fresh c b l rs))
unfolding start_outcome
start-kept c b l rs h e = record {
  words = start-length c rs b (length l) h.count;
  invariant = rw (start-state c rs b (length l) h.count e) (start-invariant c b l (registers_in rs 0) (registers-fit rs h) e);
  stands = refl;
}

-- NO. 13
pub walk-shows : WalkShows
unfolding walk_into
walk-shows c b l rs h e cs w z n s =
    let k = rules c in
    let os = opened_by cs (fresh c b l rs) [] in
    let i = run-keeps k (lawful c) cs w [] (fresh c b l rs) (pointer_in k (fresh c b l rs)) (start-kept c b l rs h e) in
    let p = pointer_in k (run cs (fresh c b l rs)) in
    let size : length (p ∷ callers k os) ≤ n = omega (arith, callers-length k os) in
    rw (memory-walked k (lawful c) (aligned c) os (machine_in (run cs (fresh c b l rs))) i.invariant z, le-leb (length (p ∷ callers k os)) n size) (ap frames (sym i.stands))
