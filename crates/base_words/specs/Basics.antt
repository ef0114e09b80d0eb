-- What layers of both families use besides bytes: a choice by a test, a test as a number, rounding up, and a fact of each of several. Assumes nothing.
use Rattle.std.specs.Prelude.{ℕ, ◌+◌, ◌-◌, ◌*◌, ◌/◌, Bool, true, false, List, [], ◌∷◌}

-- the first where the test holds, else the second
abbrev pub pick : {A : Type 0} → Bool → A → A → A
pick true a b = a
pick false a b = b

-- a test as a number
abbrev pub flag : Bool → ℕ
flag true = 1
flag false = 0

-- x "rounded up to" a multiple of a ("Frames")
unfoldable pub round_up : ℕ → ℕ → ℕ
round_up x a = (x + (a - 1)) / a * a

-- each of several
unfoldable pub All : {A : Type 0} → (A → Type 0) → List A → Type 0
All P [] = Unit {0}
All P (x ∷ xs) = P x × All P xs
