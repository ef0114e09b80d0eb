-- The pointers of the open enters are those that stood before their callees' enters: so a back chain leads from each to the next. Assumes nothing.
use Prim.Native.Nat.{ℕ, ◌+◌}
use mathlib.Core.Path.{◌≡◌, refl, sym, ap, ◌∙◌}
use mathlib.Core.List.{List, [], ◌∷◌}
use native.Mathlib.Omega.{arith}
use lib.ListN.{length}
use Rattle.frame_rules.specs.declared.FrameRules.{FrameRules}
use Rattle.frame_rules.specs.Helpers.{LawfulFrames}
use Rattle.frame_machine.specs.Answers.{FrameAnswer}
use Rattle.std.specs.Prelude.{Ok, Err}
use Rattle.frame_machine.specs.Machine.{stack_pointer, sizes, enter_outcome, write_register_outcome, written_register, write_memory_outcome, leave_outcome}
use Rattle.frame_history.specs.Calls.{Call, enter, write_register, write_memory, leave, Machine, answer, after}
use Rattle.frame_history.specs.Preserved.{OpenEnter, open_after, close_latest, CallHolds}
use Rattle.frame_history.proofs.Invariant.{Invariant, base-of}
use Rattle.frame_dump_history.specs.Shown.{frame_address, shown}

-- the pointer just before each open enter
abbrev pub callers : FrameRules → List OpenEnter → List ℕ
callers k [] = []
callers k (o ∷ os) = stack_pointer k o.before.state ∷ callers k os

pub callers-length : (k : FrameRules) (os : List OpenEnter) → length (callers k os) ≡ length os
callers-length k [] = refl
callers-length k (o ∷ os) = omega (arith, callers-length k os)

abbrev rest : List ℕ → List ℕ
rest [] = []
rest (x ∷ xs) = xs

-- The latest frame is where the pointer is; each caller's, at last the start's, is where the pointer was before its callee's enter.
abbrev pub Stands : FrameRules → List OpenEnter → Machine → ℕ → Type 0
Stands k os m p = shown k os p ≡ stack_pointer k m.state ∷ callers k os

-- a write of a register leaves the pointer: the state's sum of sizes is as it was
written-pointer : (k : FrameRules) (os : List OpenEnter) (m : Machine) (b n v : ℕ) → answer (write_register b n v) m ≡ Ok tt → Invariant k os m → Invariant k os (after (write_register b n v) m)
    → stack_pointer k (after (write_register b n v) m).state ≡ stack_pointer k m.state
unfolding write_register_outcome written_register
written-pointer k os m b n v e i j =
    let was = (base-of k os m i).sound.sum in
    let is : stack_pointer k (written_register m.state b n v) + sizes k m.state.frames m.state.depth + k.room ≡ m.state.base + m.state.size
    = rw e at (base-of k os (after (write_register b n v) m) j).sound.sum in
    rw e (omega (arith, was, is))

-- each call keeps it
pub stands-step : (k : FrameRules) (c : Call) (os : List OpenEnter) (m : Machine) (p : ℕ) → Invariant k os m → (a : FrameAnswer) → answer c m ≡ a → CallHolds k c a os (after c m)
    → Invariant k (open_after c a m os) (after c m) → Stands k os m p → Stands k (open_after c a m os) (after c m) p
unfolding enter_outcome write_register_outcome write_memory_outcome leave_outcome
stands-step k (enter f) os m p i (Ok tt) e h j s = ap (λ (t : List ℕ). stack_pointer k (after (enter f) m).state ∷ t) s
stands-step k (enter f) os m p i (Err x) e h j s = rw e s
stands-step k (write_register b n v) os m p i (Ok tt) e h j s = rw (written-pointer k os m b n v e i j) s
stands-step k (write_register b n v) os m p i (Err x) e h j s = rw e s
stands-step k (write_memory at bs) os m p i a e h j s = s
stands-step k leave [] m p i (Ok tt) e h j s = absurd h
stands-step k leave (o ∷ os) m p i (Ok tt) e h j s = rw h.pointer (ap rest s)
stands-step k leave os m p i (Err x) e h j s = rw e s
