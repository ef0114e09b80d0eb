-- The sum does not wrap, and the product is at most the sum. Assumes nothing.
use native.Mathlib.Nat.{div-mul-le_self}
use Rattle.base_words.specs.Basics.{round_up}
use Prim.Native.Nat.{◌+◌, ◌-◌}
use native.Mathlib.Omega.{arith}
use mathlib.Core.Path.{refl}
use Rattle.base_words.proofs.round_up.Goals as goal

pub overflow_mul-result : goal.overflow_mul-result
overflow_mul-result c = omega (arith, div-mul-le_self (c.args.x + (c.args.a - 1)) c.args.a)

pub returns : goal.returns
unfolding round_up
returns c = refl
