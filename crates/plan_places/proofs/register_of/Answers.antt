-- The index is below the count of floating registers or past it.
use Rattle.plan_places.proofs.Registers.{register-floating, register-general}
use native.Mathlib.Omega.{arith}
use mathlib.Core.Path.{sym}
use Rattle.plan_places.proofs.register_of.Goals as goal

pub returns-then-i-floats : goal.returns-then-i-floats
returns-then-i-floats c = sym (register-floating _ _ (omega arith))

pub returns : goal.returns
returns c = sym (register-general _ _ (omega arith) (omega arith))
