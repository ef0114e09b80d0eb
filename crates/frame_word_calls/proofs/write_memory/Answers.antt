-- The machine's own call of the state read, which it leaves as it is. Assumes nothing.
use Rattle.frame_machine.specs.declared.FrameOutcome.{FrameOutcome}
use mathlib.Core.Path.{ap}
use Rattle.frame_word_calls.proofs.write_memory.Goals as goal

pub returns : goal.returns
returns c = record {
  value = ap (λ (o : FrameOutcome). o.answer) (rw c.state_in-s.ensures at c.write_memory.ensures.value);
  memory_after = rw c.state_in-s.ensures at c.write_memory.ensures.memory_after;
}
