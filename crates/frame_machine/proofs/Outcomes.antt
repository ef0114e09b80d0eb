-- What a call hands back where it is accepted, and where it is refused. Assumes nothing.
use Prim.Native.Nat.{ℕ, ◌+◌, ◌-◌}
use mathlib.Core.Path.{◌≡◌}
use mathlib.Core.Bool.{true, false}
use mathlib.Core.List.{List}
use lib.ListN.{length, set}
use Rattle.base_conventions.specs.declared.Convention.{Convention}
use Rattle.frame_rules.specs.declared.Frame.{Frame}
use Rattle.frame_rules.specs.declared.FrameRules.{FrameRules}
use Rattle.frame_rules.specs.declared.Registers.{Registers}
use Rattle.frame_rules.specs.Rules.{rules}
use Rattle.frame_rules.specs.Frames.{no_frame, frame_size, restored, bank_of, with_register}
use Rattle.frame_machine.specs.Answers.{FrameRefusal, BadMemory, judge}
use Rattle.std.specs.Prelude.{Ok, Err}
use Rattle.frame_machine.specs.Machine.{State, state_rules, stack_pointer, offset, top, ok_memory, start_answer, started, started_memory, not_started, enter_answer, entered, entered_memory, write_register_answer, write_memory_answer, written_register, written_memory, leave_answer, left, start_outcome, start_memory, enter_outcome, enter_memory, write_register_outcome, write_memory_outcome, write_memory_memory, leave_outcome}

pub accepted-start : (c : Convention) (b n : ℕ) → ok_memory (rules c) b n ≡ true → start_answer c b n ≡ Ok tt
unfolding start_answer judge
accepted-start c b n e = rw e

pub refused-start : (c : Convention) (b n : ℕ) → ok_memory (rules c) b n ≡ false → start_answer c b n ≡ Err BadMemory
unfolding start_answer judge
refused-start c b n e = rw e

module _ (c : Convention) (b : ℕ) (l : List ℕ) (r : Registers) where
  pub start-accepted : start_answer c b (length l) ≡ Ok tt
      → (start_outcome c b (length l) r ≡ record { answer = Ok tt; state = started c b (length l) r }) × (start_memory c b l ≡ started_memory (rules c) l)
  unfolding start_outcome start_memory
  start-accepted e = (rw e, rw e)

  pub start-refused : (x : FrameRefusal) → start_answer c b (length l) ≡ Err x
      → (start_outcome c b (length l) r ≡ record { answer = Err x; state = not_started c r }) × (start_memory c b l ≡ l)
  unfolding start_outcome start_memory
  start-refused x e = (rw e, rw e)

module _ (s : State) (l : List ℕ) (f : Frame) where
  pub enter-accepted : enter_answer (state_rules s) s (length l) f ≡ Ok tt
      → (enter_outcome s (length l) f ≡ record { answer = Ok tt; state = entered (state_rules s) s f }) × (enter_memory s l f ≡ entered_memory (state_rules s) s l f)
  unfolding enter_outcome enter_memory
  enter-accepted e = (rw e, rw e)

  pub enter-refused : (x : FrameRefusal) → enter_answer (state_rules s) s (length l) f ≡ Err x
      → (enter_outcome s (length l) f ≡ record { answer = Err x; state = s }) × (enter_memory s l f ≡ l)
  unfolding enter_outcome enter_memory
  enter-refused x e = (rw e, rw e)

module _ (s : State) (n b i v : ℕ) where
  pub write-register-accepted : write_register_answer (state_rules s) s n b i v ≡ Ok tt → write_register_outcome s n b i v ≡ record { answer = Ok tt; state = written_register s b i v }
  unfolding write_register_outcome
  write-register-accepted e = rw e

  pub write-register-refused : (x : FrameRefusal) → write_register_answer (state_rules s) s n b i v ≡ Err x → write_register_outcome s n b i v ≡ record { answer = Err x; state = s }
  unfolding write_register_outcome
  write-register-refused x e = rw e

-- the state with its registers stored anew, where they are what the definition says
pub registers-written : (s : State) (b i v : ℕ) (r : Registers) → r ≡ with_register s.registers (bank_of b) i v
    → record { convention = s.convention; base = s.base; size = s.size; depth = s.depth; registers = r; frames = s.frames } ≡ written_register s b i v
unfolding written_register
registers-written s b i v r e = rw e

module _ (s : State) (l : List ℕ) (a : ℕ) (bs : List ℕ) where
  pub write-memory-accepted : write_memory_answer (state_rules s) s (length l) a (length bs) ≡ Ok tt
      → (write_memory_outcome s (length l) a (length bs) ≡ record { answer = Ok tt; state = s }) × (write_memory_memory s l a bs ≡ written_memory s l a bs)
  unfolding write_memory_outcome write_memory_memory
  write-memory-accepted e = (rw e, rw e)

  pub write-memory-refused : (x : FrameRefusal) → write_memory_answer (state_rules s) s (length l) a (length bs) ≡ Err x
      → (write_memory_outcome s (length l) a (length bs) ≡ record { answer = Err x; state = s }) × (write_memory_memory s l a bs ≡ l)
  unfolding write_memory_outcome write_memory_memory
  write-memory-refused x e = (rw e, rw e)

module _ (s : State) (l : List ℕ) where
  pub leave-accepted : leave_answer (state_rules s) s l ≡ Ok tt → leave_outcome s l ≡ record { answer = Ok tt; state = left (state_rules s) s l }
  unfolding leave_outcome
  leave-accepted e = rw e

  pub leave-refused : (x : FrameRefusal) → leave_answer (state_rules s) s l ≡ Err x → leave_outcome s l ≡ record { answer = Err x; state = s }
  unfolding leave_outcome
  leave-refused x e = rw e

pub registers-restored : (k : FrameRules) (s : State) (l : List ℕ) (r : Registers)
    → r ≡ restored k (top k s) (offset k s + frame_size k (top k s)) l (stack_pointer k s + frame_size k (top k s)) s.registers
    → record { convention = s.convention; base = s.base; size = s.size; depth = s.depth - 1; registers = r; frames = set s.frames (s.depth - 1) no_frame } ≡ left k s l
unfolding left
registers-restored k s l r e = rw e
