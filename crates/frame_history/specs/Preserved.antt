-- Demand 3 of the machine's own calls: "a single claim about the whole list of calls". Document 01, "Frames"; `Demand3OfStates` is the claim with all that it asks for,
-- of which `calls-hold` in proofs/Theorem.antt is a value. The crate word_history has the claim of the calls that C makes. Assumes nothing.
use Rattle.std.specs.Prelude.{ℕ, ◌+◌, ◌≤◌, ◌<◌, ◌^◌, ◌*◌, ◌≡◌, ◌⊎◌, true, List, [], ◌∷◌, get_or, length, Ok, Err}
use Rattle.base_words.specs.Basics.{All}
use Rattle.frame_saves.specs.Saves.{Outside}
use Rattle.base_conventions.specs.declared.Convention.{Convention}
use Rattle.frame_rules.specs.declared.FrameRules.{FrameRules}
use Rattle.frame_rules.specs.declared.Frame.{Frame}
use Rattle.frame_rules.specs.declared.Registers.{Registers}
use Rattle.frame_rules.specs.Rules.{within, rules}
use Rattle.frame_rules.specs.Frames.{start_frame, outgoing_length, saves, return_address, preserved_condition}
use Rattle.frame_machine.specs.Answers.{FrameAnswer}
use Rattle.frame_machine.specs.Machine.{stack_pointer, offset, start_outcome}
use Rattle.frame_history.specs.Calls.{Call, enter, write_register, write_memory, leave, Machine, answer, after, fresh}

-- ---- which enters are open: "told from the calls and their answers, not from the state's records"

-- an accepted enter: the machine just before it, and what it asked for
pub record OpenEnter : Type 0 where
  pub before : Machine
  pub request : Frame

abbrev pub close_latest : List OpenEnter → List OpenEnter
close_latest [] = []
close_latest (o ∷ os) = os

-- The open enters after a call, latest first. "An accepted enter is open until an accepted leave closes it; such a leave closes the latest enter still open, and that is
-- its matching enter. Writes and refused calls open and close nothing."
abbrev pub open_after : Call → FrameAnswer → Machine → List OpenEnter → List OpenEnter
open_after (enter f) (Ok tt) m os = record { before = m; request = f } ∷ os
open_after (enter f) (Err r) m os = os
open_after (write_register b n v) a m os = os
open_after (write_memory at bs) a m os = os
open_after leave (Ok tt) m os = close_latest os
open_after leave (Err r) m os = os

-- "The caller is the latest enter still open once that leave is done, or the start if none is"
abbrev pub caller_of : FrameRules → List OpenEnter → Frame
caller_of k [] = start_frame k
caller_of k (o ∷ os) = o.request

-- ---- what is kept

-- After an accepted leave to the machine m, whose matching enter is o, with the enters os still open.
pub record Preserved (k : FrameRules) (o : OpenEnter) (os : List OpenEnter) (m : Machine) : Type 0 where
  -- the stack pointer, the return address and every preserved register hold what they held just before the matching enter
  pub pointer : stack_pointer k m.state ≡ stack_pointer k o.before.state
  pub return : return_address k.linkage m.state.registers ≡ return_address k.linkage o.before.state.registers
  pub gprs : (n : ℕ) → within k.gpr.preserved n ≡ true → get_or m.state.registers.gpr n 0 ≡ get_or o.before.state.registers.gpr n 0
  pub fprs : (n : ℕ) → within k.fpr.preserved n ≡ true → get_or m.state.registers.fpr n 0 ≡ get_or o.before.state.registers.fpr n 0
  pub fields : preserved_condition k.linkage m.state.registers.cr ≡ preserved_condition k.linkage o.before.state.registers.cr
  -- and so does every byte at or above S, except the save slots of the matching enter and the caller's outgoing area; all in offsets from the base
  pub bytes : (b : ℕ) → offset k o.before.state ≤ b
      → Outside b (saves k o.request (offset k o.before.state) o.before.state.registers)
      → ((b < offset k o.before.state + k.header) ⊎ (offset k o.before.state + k.header + outgoing_length k (caller_of k os) ≤ b))
      → get_or m.memory b 0 ≡ get_or o.before.memory b 0

-- Of a leave with this answer, the enters open before it and the machine after it: it is refused exactly when no enter is open, and preserves where it is accepted.
abbrev pub LeaveHolds : FrameRules → FrameAnswer → List OpenEnter → Machine → Type 0
LeaveHolds k (Err r) [] m = Unit {0}
LeaveHolds k (Err r) (o ∷ os) m = ⊥
LeaveHolds k (Ok tt) [] m = ⊥
LeaveHolds k (Ok tt) (o ∷ os) m = Preserved k o os m

abbrev pub CallHolds : FrameRules → Call → FrameAnswer → List OpenEnter → Machine → Type 0
CallHolds k (enter f) a os m = Unit {0}
CallHolds k (write_register b n v) a os m = Unit {0}
CallHolds k (write_memory at bs) a os m = Unit {0}
CallHolds k leave a os m = LeaveHolds k a os m

-- of a whole list of calls from the machine m, with the enters os open
abbrev pub Holds : FrameRules → List Call → List OpenEnter → Machine → Type 0
Holds k [] os m = Unit {0}
Holds k (c ∷ cs) os m = CallHolds k c (answer c m) os (after c m) × Holds k cs (open_after c (answer c m) m os) (after c m)

-- ---- numbers are values of their types

-- Registers of words of w bytes. In the program a state's are so with 8: two arrays of 32 numbers of 64 bits, LR of 64 and CR of 32.
pub record RegistersFit (w : ℕ) (r : Registers) : Type 0 where
  pub gprs : length r.gpr ≡ 32
  pub fprs : length r.fpr ≡ 32
  pub gpr : (i : ℕ) → get_or r.gpr i 0 < 2 ^ (8 * w)
  pub fpr : (i : ℕ) → get_or r.fpr i 0 < 2 ^ 64
  pub lr : r.lr < 2 ^ (8 * w)
  pub cr : r.cr < 2 ^ 32

-- a value to write to a register is a number of 64 bits; nothing is asked of the other calls
abbrev pub CallFits : Call → Type 0
CallFits (enter f) = Unit {0}
CallFits (write_register b n v) = v < 2 ^ 64
CallFits (write_memory at bs) = Unit {0}
CallFits leave = Unit {0}

abbrev pub CallsFit : List Call → Type 0
CallsFit cs = All CallFits cs

-- ---- the claim

-- "The start may be handed any registers, base and memory. No enter is open at the start." In each convention, from each accepted start, every list of calls holds.
-- `RegistersFit` and `CallsFit` restrict nothing: the types of the program's numbers are so.
abbrev pub Demand3OfStates : Type 0
Demand3OfStates = (c : Convention) (b : ℕ) (l : List ℕ) (r : Registers) → RegistersFit 8 r → (start_outcome c b (length l) r).answer ≡ Ok tt → (cs : List Call) → CallsFit cs
    → Holds (rules c) cs [] (fresh c b l r)
