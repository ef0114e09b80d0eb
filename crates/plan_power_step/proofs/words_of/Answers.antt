-- A quotient times its divisor is at most the dividend.
use Rattle.plan_places.specs.Power.{words}
use mathlib.Core.Path.{refl}
use Prim.Native.Nat.{ℕ, ◌+◌, ◌-◌, ◌/◌}
use native.Mathlib.Nat.{div-mul-le_self, mul_comm}
use native.Mathlib.Omega.{arith}
use Rattle.plan_power_step.proofs.words_of.Goals as goal

pub returns-then-word-eq8 : goal.returns-then-word-eq8
unfolding words
returns-then-word-eq8 c = rw c.if-word-eq8.true (refl, omega arith)

pub returns : goal.returns
unfolding words
returns c =
    let n : ℕ = c.args.size + (c.args.word - 1) in
    (refl, omega (arith, div-mul-le_self n c.args.word, mul_comm (n / c.args.word) c.args.word))
