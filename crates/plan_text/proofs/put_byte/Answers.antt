-- A byte within the buffer is a store, and one past its end is lost.
use Rattle.plan_text.proofs.Writing.{wrote-byte, wrote-past}
use native.Mathlib.Omega.{arith}
use Rattle.plan_text.proofs.put_byte.Goals as goal

pub returns-then-at-text : goal.returns-then-at-text
returns-then-at-text c = wrote-byte _ _ _

pub returns : goal.returns
returns c = wrote-past _ _ _ (omega arith)
