-- By the family of conventions. Assumes nothing.
use native.Mathlib.Nat.{div-le_self}
use native.Mathlib.Omega.{arith}
use Rattle.call_walking.specs.Helpers.{counters_after}
use Rattle.call_walking.proofs.counters_after.Goals as goal

pub nonzero_div-result : goal.nonzero_div-result
nonzero_div-result c = let h = rw c.in-Power.is at c.requires.1 in omega (arith, h)

pub overflow_add-result : goal.overflow_add-result
overflow_add-result c = let h = rw c.in-Power.is at c.requires.1 in omega (arith, c.requires.0, h, div-le_self c.args.d.stack c.in-Power.f.word)

pub overflow_sub-result : goal.overflow_sub-result
overflow_sub-result c = let h = rw c.in-Power.is at c.requires.1 in omega (arith, h)

pub overflow_add-result-in-Z : goal.overflow_add-result-in-Z
overflow_add-result-in-Z c = let h = rw c.in-Z.is at c.requires.1 in omega (arith, h, c.requires.0)

pub returns-in-Power : goal.returns-in-Power
unfolding counters_after
returns-in-Power c = rw c.in-Power.is

pub returns-in-Z : goal.returns-in-Z
unfolding counters_after
returns-in-Z c = rw c.in-Z.is
