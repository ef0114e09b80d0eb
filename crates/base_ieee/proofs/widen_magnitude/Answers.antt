-- `widen_magnitude` meets its contract: each way through the tests is one class of the definition. A subnormal's shifted
-- fraction lies between 2^23 and 2^24, so nothing is shifted out, no sum passes 64 bits, and the leading one counts one in
-- the exponent field. Assumes nothing.
use mathlib.Core.Path.{◌≡◌, refl, sym, ap, ap₂}
use Prim.Native.Nat.{ℕ, ◌+◌, ◌-◌, ◌*◌, ◌/◌, ◌%◌, ◌^◌, ◌<◌}
use native.Mathlib.Nat.{pos_of_ne-zero}
use native.Mathlib.Omega.{arith}
use lib.Count.{count_leading_zeros}
use Rattle.base_ieee.specs.Format.{single, join}
use Rattle.base_ieee.specs.Widening.{signed-zero, subnormal, normal, infinity-or-nan, shift}
use Rattle.base_ieee.specs.Helpers.{magnitude}
use Rattle.base_ieee.proofs.Classes.{Normalised, normalised, leading-longer}
use Rattle.base_ieee.proofs.Magnitudes.{magnitude-as}
use Rattle.base_ieee.proofs.widen_magnitude.Goals as goal

-- Of a subnormal f: the shift s, which the code counts in 32 bits and the definition in 24, and the shifted fraction.
record Shifted (f s : ℕ) : Type 0 where
  some : 0 < f
  normal-form : Normalised single f
  count : s ≡ shift single f
  product : f * 2 ^ s ≡ f * 2 ^ shift single f
  fields : magnitude (f / 2 ^ 23) (f % 2 ^ 23) ≡ magnitude 0 f

leading-8 : (f : ℕ) → f < 2 ^ 23 → count_leading_zeros 32 f ≡ shift single f + 8
leading-8 f small = leading-longer 24 8 f (omega arith)

shifted : (f s : ℕ) → (f ≡ 0 → ⊥) → f < 2 ^ 23 → s ≡ count_leading_zeros 32 f - 8 → Shifted f s
shifted f s some small e =
    let pos : 0 < f = pos_of_ne-zero some in
    let same : s ≡ shift single f = omega (arith, leading-8 f small) in record {
      some = pos;
      normal-form = normalised single f pos small;
      count = same;
      product = ap (λ (n : ℕ). f * 2 ^ n) same;
      fields = ap₂ magnitude (omega arith) (omega arith);
    }

pub returns-then-m-eq0 : goal.returns-then-m-eq0
unfolding join
returns-then-m-eq0 c = sym (magnitude-as signed-zero _ _ (omega arith, omega arith))

pub overflow_sub-m : goal.overflow_sub-m
overflow_sub-m c = omega (arith, leading-8 c.args.m (omega arith))

pub overflow_mul-result-then-m-lt-SINGLE_UNIT : goal.overflow_mul-result-then-m-lt-SINGLE_UNIT
overflow_mul-result-then-m-lt-SINGLE_UNIT c =
    omega (arith, shifted c.args.m c.from-shift.result c.if-m-eq0.false (omega arith) c.from-shift.ensures)

pub overflow_add-result : goal.overflow_add-result
overflow_add-result c =
    omega (arith, shifted c.args.m c.from-shift.result c.if-m-eq0.false (omega arith) c.from-shift.ensures)

pub returns-then-m-lt-SINGLE_UNIT : goal.returns-then-m-lt-SINGLE_UNIT
unfolding join
returns-then-m-lt-SINGLE_UNIT c =
    let k = shifted c.args.m c.from-shift.result c.if-m-eq0.false (omega arith) c.from-shift.ensures in
    omega (arith, k, magnitude-as subnormal 0 c.args.m (refl, k.some))

pub returns-then-m-lt-SINGLE_INFINITY : goal.returns-then-m-lt-SINGLE_INFINITY
unfolding join
returns-then-m-lt-SINGLE_INFINITY c =
    omega (arith, magnitude-as normal (c.args.m / 2 ^ 23) (c.args.m % 2 ^ 23) (omega arith, omega arith))

pub returns-else-m-lt-SINGLE_INFINITY : goal.returns-else-m-lt-SINGLE_INFINITY
unfolding join
returns-else-m-lt-SINGLE_INFINITY c =
    omega (arith, magnitude-as infinity-or-nan (c.args.m / 2 ^ 23) (c.args.m % 2 ^ 23) (omega arith))
