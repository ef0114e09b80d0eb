-- The stack pointer, the record and the depth are stored. Assumes nothing.
use Rattle.frame_machine.specs.Machine.{entered}
use Rattle.frame_calls.proofs.push.Goals as goal

pub returns : goal.returns
unfolding entered
returns c =
    rw (c.with_pointer-r.ensures, c.stack_pointer-p.ensures, c.frame_size-z.ensures)
