-- Lists of calls of the frame machine, each getting state and memory as the one before left them. A call's answer and what stands after it are
-- those that the contracts of `frame::enter`, `frame::write_register`, `frame::write_memory` and `frame::leave` give. Assumes nothing.
use Rattle.std.specs.Prelude.{ℕ, List, length}
use Rattle.base_conventions.specs.declared.Convention.{Convention}
use Rattle.frame_rules.specs.declared.Frame.{Frame}
use Rattle.frame_rules.specs.declared.Registers.{Registers}
use Rattle.frame_machine.specs.declared.State.{State}
use Rattle.frame_machine.specs.declared.FrameOutcome.{FrameOutcome}
use Rattle.frame_machine.specs.Answers.{FrameAnswer}
use Rattle.frame_machine.specs.Machine.{start_outcome, start_memory, enter_outcome, enter_memory, write_register_outcome, write_memory_outcome, write_memory_memory, leave_outcome}

-- any enter, write or leave: of a request; of a bank, a number and a value; of an address and bytes
pub data Call : Type 0 where
  enter : Frame → Call
  write_register : ℕ → ℕ → ℕ → Call
  write_memory : ℕ → List ℕ → Call
  leave : Call

-- a state and its memory
pub record Machine : Type 0 where
  pub state : State
  pub memory : List ℕ

-- what a call answers with the state after it, and the memory after it
abbrev pub outcome : Call → Machine → FrameOutcome
outcome (enter f) m = enter_outcome m.state (length m.memory) f
outcome (write_register b n v) m = write_register_outcome m.state (length m.memory) b n v
outcome (write_memory a bs) m = write_memory_outcome m.state (length m.memory) a (length bs)
outcome leave m = leave_outcome m.state m.memory

abbrev pub memory_after : Call → Machine → List ℕ
memory_after (enter f) m = enter_memory m.state m.memory f
memory_after (write_register b n v) m = m.memory
memory_after (write_memory a bs) m = write_memory_memory m.state m.memory a bs
memory_after leave m = m.memory

abbrev pub answer : Call → Machine → FrameAnswer
answer c m = (outcome c m).answer

abbrev pub after : Call → Machine → Machine
after c m = record { state = (outcome c m).state; memory = memory_after c m }

-- the fresh start of a convention, from a base, a memory and registers
abbrev pub fresh : Convention → ℕ → List ℕ → Registers → Machine
fresh c b l r = record { state = (start_outcome c b (length l) r).state; memory = start_memory c b l }
