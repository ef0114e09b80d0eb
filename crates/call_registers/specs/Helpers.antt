-- For proofs and helpers alone: no claim cites this file.
-- What putting and taking words of registers asks. Assumes nothing.
use Rattle.std.specs.Prelude.{ℕ, ◌+◌, ◌*◌, ◌≤◌, ◌<◌}

-- n bytes in k words of w bytes, none of them empty, in registers that lie in a buffer of i bytes
abbrev pub RegistersTake : ℕ → ℕ → ℕ → ℕ → Type 0
RegistersTake w k n i = (1 ≤ w) × (w ≤ 8) × (n ≤ w * k) × (w * k < n + w) × (8 * k ≤ i)

-- k registers from `first` on lie in an image of i bytes, and n bytes of their words from lo on, in the first word, are there
abbrev pub RegistersHold : ℕ → ℕ → ℕ → ℕ → ℕ → ℕ → Type 0
RegistersHold w first k lo n i = (1 ≤ w) × (w ≤ 8) × (lo < w) × (lo + n ≤ w * k) × (8 * first + 8 * k ≤ i)
