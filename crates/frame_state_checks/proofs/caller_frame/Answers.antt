-- The start, or the record below the top one. Assumes nothing.
use Rattle.frame_machine.proofs.Coding.{caller-none, caller-some}
use native.Mathlib.Omega.{arith}
use mathlib.Core.Path.{sym, ◌∙◌}
use Rattle.frame_state_checks.proofs.caller_frame.Goals as goal

pub returns-then-s-le1 : goal.returns-then-s-le1
returns-then-s-le1 c =
    c.start_frame.ensures ∙ sym (caller-none c.args.k c.args.s.frames c.args.s.depth (omega arith))

pub returns-else-s-le1 : goal.returns-else-s-le1
returns-else-s-le1 c =
    sym (caller-some c.args.k c.args.s.frames c.args.s.depth (omega arith))
