-- For proofs and helpers alone: no claim cites this file.
-- The magnitudes that the signs are put above: what the functions behind widening and narrowing answer. Assumes nothing.
use Rattle.std.specs.Prelude.{ℕ}
use Rattle.base_ieee.specs.Format.{single, double, positive, join}
use Rattle.base_ieee.specs.Widening.{widen_fields}
use Rattle.base_ieee.specs.Narrowing.{candidate_fields}

-- A single without its sign, widened: by its other two fields.
unfoldable pub magnitude : ℕ → ℕ → ℕ
magnitude e f = join double (widen_fields single double (positive e f))

-- Narrowing's candidate for a double without its sign: by its other two fields.
unfoldable pub candidate_magnitude : ℕ → ℕ → ℕ
candidate_magnitude e f = join single (candidate_fields single double (positive e f))
