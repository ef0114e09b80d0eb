-- The size is the rounded end, and it decides.
use mathlib.Core.Path.{sym}
use native.Mathlib.Omega.{arith}
use Rattle.sig_types.specs.Structs.{shape_of}
use Rattle.sig_types.proofs.Laws.{closed-large, closed-small}
use Rattle.sig_layout.proofs.close.Goals as goal

pub returns-then-size-gt-MAX_SIZE : goal.returns-then-size-gt-MAX_SIZE
returns-then-size-gt-MAX_SIZE c = sym (closed-large _ (omega arith))

pub returns : goal.returns
unfolding shape_of
returns c = rw (closed-small c.args.l (omega arith), c.round_up-size.ensures)
