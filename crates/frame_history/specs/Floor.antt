-- Document 02, No. 8: "Interrupt code on the PowerPC machines trusts the room under the stack pointer"; No. 9: "The leaf may write the bytes of the floor area of No. 8
-- that aren't its saves". `KeepsFloorOfStates` is the claim for every list of the machine's own calls from every accepted start; `floor-kept` in proofs/Floor.antt proves it.
-- The crate word_history has the claim of the calls that C makes. Assumes nothing.
use Rattle.std.specs.Prelude.{ℕ, ◌+◌, ◌≤◌, ◌<◌, ◌≡◌, ◌⊎◌, true, List, [], ◌∷◌, get_or, length, Ok}
use Rattle.base_conventions.specs.declared.Convention.{Convention}
use Rattle.frame_rules.specs.declared.FrameRules.{FrameRules}
use Rattle.frame_rules.specs.declared.Registers.{Registers}
use Rattle.frame_rules.specs.Rules.{rules}
use Rattle.frame_rules.specs.Frames.{below}
use Rattle.frame_machine.specs.Machine.{stack_pointer, offset, top, start_outcome}
use Rattle.frame_history.specs.Calls.{Call, enter, write_register, write_memory, leave, Machine, after, fresh}
use Rattle.frame_history.specs.Preserved.{RegistersFit, CallsFit}

-- the floor under the stack pointer lies inside the memory
pub record FloorInside (k : FrameRules) (m : Machine) : Type 0 where
  pub first : m.state.base + k.floor ≤ stack_pointer k m.state
  pub last : stack_pointer k m.state ≤ m.state.base + length m.memory

-- the byte b below the stack pointer is a leaf's to change: as it is entered one that it saves, later one that it writes; in offsets from the base
abbrev pub ByLeaf : FrameRules → Call → Machine → ℕ → Type 0
ByLeaf k (enter f) m b = (f.leaf ≡ true) × (offset k m.state ≤ b + below k.linkage k f)
ByLeaf k (write_register i n v) m b = ⊥
ByLeaf k (write_memory a bs) m b = ((top k m.state).leaf ≡ true) × (a ≤ m.state.base + b) × (m.state.base + b < a + length bs)
ByLeaf k leave m b = ⊥

-- from m to m' by a call no byte below the stack pointer of m' has changed, but for one of the floor that is a leaf's
abbrev pub Untouched : FrameRules → Call → Machine → Machine → Type 0
Untouched k c m m' =
    (b : ℕ) → b < offset k m'.state → (get_or m'.memory b 0 ≡ get_or m.memory b 0) ⊎ ((offset k m'.state ≤ b + k.floor) × ByLeaf k c m b)

-- before the first of the calls and after each of them the floor is inside the memory, and each call leaves what lies below the stack pointer that it leaves behind
abbrev pub FloorHolds : FrameRules → List Call → Machine → Type 0
FloorHolds k [] m = FloorInside k m
FloorHolds k (c ∷ cs) m = FloorInside k m × Untouched k c m (after c m) × FloorHolds k cs (after c m)

-- `RegistersFit` and `CallsFit` restrict nothing: the types of the program's numbers are so.
abbrev pub KeepsFloorOfStates : Type 0
KeepsFloorOfStates = (c : Convention) (b : ℕ) (l : List ℕ) (r : Registers) → RegistersFit 8 r → (start_outcome c b (length l) r).answer ≡ Ok tt → (cs : List Call) → CallsFit cs
    → FloorHolds (rules c) cs (fresh c b l r)
