-- The floor under lists of the exported calls. Document 02, No. 8: "Interrupt code on the PowerPC machines trusts the room under the stack pointer"; No. 9 lets a leaf
-- write there. `KeepsFloor` is the claim with all that it asks for, of which `words-floor` in proofs/Floor.antt is a value. What it is to keep the floor is said in crates/frame_history/specs/Floor.antt of the
-- state and the memory; here the state is what the lent words are read as. Assumes nothing.
use Rattle.std.specs.Prelude.{ℕ, ◌≡◌, List, [], ◌∷◌, length, Ok}
use Rattle.base_conventions.specs.declared.Convention.{Convention}
use Rattle.frame_rules.specs.declared.FrameRules.{FrameRules}
use Rattle.frame_rules.specs.Rules.{rules}
use Rattle.frame_machine.specs.Machine.{start_outcome}
use Rattle.frame_word_layout.specs.Words.{registers_words, registers_in}
use Rattle.frame_history.specs.Preserved.{CallsFit}
use Rattle.frame_history.specs.Floor.{FloorInside, Untouched}
use Rattle.frame_word_history.specs.Calls.{Call, Lent, after, fresh}
use Rattle.frame_word_history.specs.Demand3.{machine_in, call_in, calls_in, WordsFit}

-- before the first of the calls and after each of them the floor is inside the memory, and each call leaves what lies below the stack pointer that it leaves behind,
-- but for what is a leaf's
abbrev pub FloorHolds : FrameRules → List Call → Lent → Type 0
FloorHolds k [] m = FloorInside k (machine_in m)
FloorHolds k (c ∷ cs) m = FloorInside k (machine_in m) × Untouched k (call_in c) (machine_in m) (machine_in (after c m)) × FloorHolds k cs (after c m)

-- in each convention, from each accepted start, of every list of exported calls; the premises are those of `Demand3`
abbrev pub KeepsFloor : Type 0
KeepsFloor = (c : Convention) (b : ℕ) (l rs : List ℕ) → WordsFit registers_words rs → (start_outcome c b (length l) (registers_in rs 0)).answer ≡ Ok tt → (cs : List Call) → CallsFit (calls_in cs)
    → FloorHolds (rules c) cs (fresh c b l rs)
