-- The start, or the record below the depth. Assumes nothing.
use Rattle.frame_machine.proofs.Coding.{top-none, top-some}
use native.Mathlib.Omega.{arith}
use mathlib.Core.Path.{sym, ◌∙◌}
use Rattle.frame_state_checks.proofs.frame_under.Goals as goal

pub returns-then-d-eq0 : goal.returns-then-d-eq0
returns-then-d-eq0 c =
    c.start_frame.ensures ∙ sym (top-none c.args.k c.args.fs c.args.d (omega arith))

pub returns-else-d-eq0 : goal.returns-else-d-eq0
returns-else-d-eq0 c =
    sym (top-some c.args.k c.args.fs c.args.d (omega arith))
