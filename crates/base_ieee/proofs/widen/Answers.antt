-- `widen` meets its contract: the sign takes no part in widening, and stands above 63 bits. Assumes nothing.
use mathlib.Core.Path.{◌≡◌, ap, ap₂}
use Prim.Native.Nat.{ℕ, ◌/◌, ◌%◌, ◌^◌}
use native.Mathlib.Omega.{arith}
use Rattle.base_ieee.specs.Widening.{widen}
use Rattle.base_ieee.specs.Helpers.{magnitude}
use Rattle.base_ieee.proofs.Magnitudes.{magnitude-below, widen-sign}
use Rattle.base_ieee.proofs.widen.Goals as goal

-- The fields below the sign are those of the 31 bits there.
below-sign : (x : ℕ) → magnitude (x % 2 ^ 31 / 2 ^ 23) (x % 2 ^ 31 % 2 ^ 23) ≡ magnitude (x / 2 ^ 23 % 2 ^ 8) (x % 2 ^ 23)
below-sign x = ap₂ magnitude (omega arith) (omega arith)

pub overflow_add-result : goal.overflow_add-result
overflow_add-result c = omega (arith, magnitude-below c.from-bits.result, below-sign c.from-bits.result)

pub returns : goal.returns
returns c =
    omega (arith, widen-sign c.from-bits.result (omega arith), below-sign c.from-bits.result, ap widen c.from-bits.ensures)
