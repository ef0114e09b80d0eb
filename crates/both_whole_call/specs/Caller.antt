-- The caller: when a running function can make a call, and that one can which asked for it when it was entered (`AskedCanCall`, which proofs/Caller.antt proves). Document 01,
-- "Frames"; document 02, No. 1 and No. 9. Assumes nothing.
use Rattle.std.specs.Prelude.{ℕ, ◌+◌, ◌≤◌, ◌≡◌, true, false, List, [], ◌∷◌, Ok}
use Rattle.base_words.specs.Basics.{All}
use Rattle.base_conventions.specs.declared.Convention.{Convention}
use Rattle.plan_places.specs.declared.Bank.{Bank}
use Rattle.plan_plans.specs.declared.Plan.{Plan}
use Rattle.plan_plans.specs.Call.{outcome_for}
use Rattle.call_slots.specs.Arguments.{plan_for}
use Rattle.frame_rules.specs.declared.BankRules as frames
use Rattle.frame_rules.specs.declared.FrameRules.{FrameRules}
use Rattle.frame_rules.specs.declared.Frame.{Frame}
use Rattle.frame_rules.specs.Rules.{rules}
use Rattle.frame_rules.specs.Frames.{first_gpr_of, first_fpr_of, outgoing_length, below, frame_size, writable}
use Rattle.frame_machine.specs.Machine.{stack_pointer}
use Rattle.frame_history.specs.Calls.{Machine}
use Rattle.frame_history.specs.Preserved.{OpenEnter, caller_of}
use Rattle.frame_word_history.specs.Calls.{Lent}
use Rattle.both_meeting.specs.Meeting.{asked_area, asking}
use Rattle.both_whole_call.specs.Put.{own_area, Register, register, named}
use Rattle.both_whole_call.specs.Reached.{Reached}

-- the frames' rules for a bank, and the first register of it that a frame saved
abbrev pub bank_in : FrameRules → Bank → frames.BankRules
bank_in k Bank.General = k.gpr
bank_in k Bank.Floating = k.fpr

abbrev pub first_saved : Bank → Frame → ℕ
first_saved Bank.General f = first_gpr_of f
first_saved Bank.Floating f = first_fpr_of f

-- the frame f may write a register: it is volatile, or f saved it
abbrev pub Free : FrameRules → Frame → Register → Type 0
Free k f x = writable (bank_in k x.bank) (first_saved x.bank f) x.number ≡ true

-- The running function, which is the latest open enter or the start, can call by the plan p: it is no leaf ("Enter above a leaf gives new refusal 28"), its outgoing area has
-- room for the plan's, and it may write the registers that the plan names. That last it always may, but on Z for r6, which it must have saved (law `named-free`); and a function
-- that asked for the plan's area, rounded up to 8, has the room (law `can-call`).
pub record CallerSuits (p : Plan) (os : List OpenEnter) : Type 0 where
  pub solid : (caller_of (rules p.convention) os).leaf ≡ false
  pub room : p.area ≤ outgoing_length (rules p.convention) (caller_of (rules p.convention) os)
  pub free : All (Free (rules p.convention) (caller_of (rules p.convention) os)) (named p)

-- in a machine that the exported calls lead to
pub record CanCall (p : Plan) (os : List OpenEnter) (m : Lent) : Type 0 where
  pub reached : Reached p.convention os m
  pub suits : CallerSuits p os

-- n bytes at the address a lie in the locals of the frame f, which is running: "own locals (all between the outgoing area and the saves)"
pub record InLocals (k : FrameRules) (f : Frame) (m : Machine) (a n : ℕ) : Type 0 where
  pub from : own_area k m + outgoing_length k f ≤ a
  pub to : a + n + below k.linkage k f ≤ stack_pointer k m.state + frame_size k f

-- ---- who can

-- on Z, where the plan names r6, the frame f saved it: "r(g) to r15, g 6 to 14"
abbrev pub SavedSix : Plan → Frame → Type 0
SavedSix p f = p.convention ≡ Convention.Z → All (λ (x : Register). x ≡ register Bank.General 6 → first_gpr_of f ≤ 6) (named p)

-- A running function that is no leaf and asked for the area of an accepted call, rounded up to a multiple of 8, and on Z saved r6 where the call uses it, can make that call. An
-- enter accepts such a request wherever it accepts the request with another area (`AreaRequested`, crates/both_meeting) and has the room.
abbrev pub AskedCanCall : Type 0
AskedCanCall = (s : List ℕ) (n : ℕ) → outcome_for s ≡ Ok n → (f : Frame) → f.leaf ≡ false → SavedSix (plan_for s) f
    → (os : List OpenEnter) (m : Lent) → Reached (plan_for s).convention os m → caller_of (rules (plan_for s).convention) os ≡ asking f (asked_area (plan_for s))
    → CanCall (plan_for s) os m
