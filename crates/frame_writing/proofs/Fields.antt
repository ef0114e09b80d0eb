-- The weight of a condition field, and the parts of a condition register. Assumes nothing.
use Prim.Native.Nat.{ℕ, ◌-◌, ◌*◌, ◌/◌, ◌%◌, ◌≤◌, ◌<◌}
use native.Mathlib.Omega.{arith}
use native.Mathlib.Nat.{div-add-mod', div-mul-le_self, pow-le-pow_right, mul-le-mul}
use lib.Dec.{lit<}
use Rattle.frame_rules.specs.Frames.{unit_of}

-- the bounds of the weight of a condition field
pub unit-bounds : (i : ℕ) → (0 < unit_of i) × (unit_of i ≤ 268435456)
unit-bounds i = (
  omega (arith, pow-le-pow_right {n = 16} (lit< tt) {i = 0} {j = 7 - i} (omega arith)),
  omega (arith, pow-le-pow_right {n = 16} (lit< tt) {i = 7 - i} {j = 7} (omega arith)),
)

-- the parts of a condition register with one field anew are small
pub field-parts : (x u v : ℕ) → v ≤ 15 → u ≤ 268435456 → (x / (16 * u) * (16 * u) ≤ x) × (v * u ≤ 4026531840) × (x % u ≤ x)
field-parts x u v p q = (div-mul-le_self x (16 * u), omega (arith, mul-le-mul p q), omega (arith, div-add-mod' x u))
