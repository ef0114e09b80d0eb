-- `candidate_magnitude` meets its contract: the definition's two cases, the lower one cut off where the shift would pass 63
-- and nothing is left, the upper one split by its minimum. Assumes nothing.
use mathlib.Core.Path.{◌≡◌, ap}
use Prim.Native.Nat.{ℕ, ◌+◌, ◌-◌, ◌/◌, ◌^◌}
use native.Mathlib.Omega.{arith}
use Rattle.base_ieee.specs.Format.{single, positive, join}
use Rattle.base_ieee.specs.Helpers.{candidate_magnitude}
use Rattle.base_ieee.proofs.Magnitudes.{candidate-low, candidate-high, candidate-none}
use Rattle.base_ieee.proofs.candidate_magnitude.Goals as goal

pub returns-then-exponent-lt874 : goal.returns-then-exponent-lt874
unfolding candidate_magnitude join
returns-then-exponent-lt874 c =
    omega (arith, ap (join single) (candidate-low (positive c.args.exponent c.args.fraction) (omega arith)), candidate-none c.args.exponent c.args.fraction c.if-exponent-lt874.true c.requires)

pub returns-then-exponent-le-REBIAS : goal.returns-then-exponent-le-REBIAS
unfolding candidate_magnitude join
returns-then-exponent-le-REBIAS c =
    let places : 926 - c.args.exponent ≡ 29 + (897 - c.args.exponent) = omega arith in
    omega (arith, ap (join single) (candidate-low (positive c.args.exponent c.args.fraction) (omega arith)), ap (λ (j : ℕ). (2 ^ 52 + c.args.fraction) / 2 ^ j) places)

pub returns-then-exponent-lt1151 : goal.returns-then-exponent-lt1151
unfolding candidate_magnitude join
returns-then-exponent-lt1151 c =
    omega (arith, ap (join single) (candidate-high (positive c.args.exponent c.args.fraction) (omega arith)))

pub returns-else-exponent-lt1151 : goal.returns-else-exponent-lt1151
unfolding candidate_magnitude join
returns-else-exponent-lt1151 c =
    omega (arith, ap (join single) (candidate-high (positive c.args.exponent c.args.fraction) (omega arith)))
