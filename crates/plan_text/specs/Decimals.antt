-- Numbers in base ten, as bytes of ASCII. Document 01, "Sums to check against": the numbers of a printed plan. Assumes nothing.
use Rattle.std.specs.Prelude.{ℕ, zero, suc, ◌+◌, ◌/◌, ◌%◌, Bool, true, false, List, [], ◌∷◌, ◌++◌, ltb}

-- the digit of a number below 10
abbrev pub digit : ℕ → ℕ
digit n = 48 + n

-- n, which is below 10 or not: its digit alone, or its last digit after the digits of n / 10
abbrev pub digit_after : Bool → List ℕ → ℕ → List ℕ
digit_after true ds n = digit n ∷ []
digit_after false ds n = ds ++ digit (n % 10) ∷ []

-- a number of at most k digits, in base ten and without leading zeros
unfoldable pub digits_of : ℕ → ℕ → List ℕ
digits_of zero n = []
digits_of (suc k) n = digit_after (ltb n 10) (digits_of k (n / 10)) n

-- a number below 2 ^ 64 has at most 20 digits; the laws `decimal-small` and `decimal-more` say what this is
unfoldable pub decimal : ℕ → List ℕ
decimal n = digits_of 20 n
