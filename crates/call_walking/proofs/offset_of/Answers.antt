-- By the family of conventions. Assumes nothing.
use native.Mathlib.Nat.{mul-le-mul_right}
use native.Mathlib.Omega.{arith}
use Rattle.call_walker.specs.Walker.{cursor_at}
use Rattle.call_walking.proofs.offset_of.Goals as goal

pub overflow_mul-result : goal.overflow_mul-result
overflow_mul-result c = let h = rw c.in-Power.is at c.requires.1 in omega (arith, c.requires.0, mul-le-mul_right c.args.k.general h)

pub overflow_sub-result : goal.overflow_sub-result
overflow_sub-result c = let h = rw c.in-Z.is at c.requires.1 in omega (arith, h)

pub returns-in-Power : goal.returns-in-Power
unfolding cursor_at
returns-in-Power c = rw c.in-Power.is

pub returns-in-Z : goal.returns-in-Z
unfolding cursor_at
returns-in-Z c = rw c.in-Z.is
