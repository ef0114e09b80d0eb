-- For proofs and helpers alone: no claim cites this file.
-- What is known of a state and a request once the tests of refusals have passed: the premises of the functions behind the calls. Assumes nothing.
use Rattle.std.specs.Prelude.{ℕ, ◌+◌, ◌≤◌, ◌<◌, ◌≡◌, true, false}
use Rattle.frame_rules.specs.declared.FrameRules.{FrameRules}
use Rattle.frame_rules.specs.declared.Frame.{Frame}
use Rattle.frame_rules.specs.Frames.{ok_registers, ok_request, frame_size}
use Rattle.frame_machine.specs.Machine.{State, max_entered, stack_pointer, top, ok_frames, sizes, ok_memory}

-- refusals 23 and 16, with n bytes of memory lent
pub record Sound (k : FrameRules) (s : State) (n : ℕ) : Type 0 where
  pub small : ok_registers k s.registers ≡ true
  pub shallow : s.depth ≤ max_entered
  pub requests : ok_frames k s.frames s.depth ≡ true
  pub memory : ok_memory k s.base s.size ≡ true
  pub over : s.base + k.floor ≤ stack_pointer k s
  pub sum : stack_pointer k s + sizes k s.frames s.depth + k.room ≡ s.base + s.size
  pub length : n ≡ s.size

-- refusals 17, 28, 18 and 19
pub record CanEnter (k : FrameRules) (s : State) (f : Frame) : Type 0 where
  pub request : ok_request k f ≡ true
  pub solid : (top k s).leaf ≡ false
  pub shallow : s.depth < max_entered
  pub room : s.base + frame_size k f + k.floor ≤ stack_pointer k s

-- refusals 23, 16 and 22: the frame entered last fits below the caller's pointer, whose header is in the memory
pub record CanLeave (k : FrameRules) (s : State) (n : ℕ) : Type 0 where
  pub deep : 0 < s.depth
  pub sound : Sound k s n
