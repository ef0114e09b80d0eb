-- What a number's digits are: the equations by which one writes them. Assumes nothing.
use mathlib.Core.Path.{◌≡◌, refl, sym, ap}
use mathlib.Core.Bool.{Bool, true, false}
use mathlib.Core.List.{List, [], ◌∷◌, ◌++◌}
use Prim.Native.Nat.{ℕ, zero, suc, ◌/◌, ◌%◌, ◌^◌, ◌≤◌, ◌<◌}
use native.Mathlib.Omega.{arith}
use borrow.Author.Tests.{lt-ltb, le-ltb}
use lib.Dec.{ltb}
use lib.ListN.{length, length-append}
use Rattle.plan_text.specs.Decimals.{digit, digit_after, digits_of, decimal}

-- ---- length

length_digits : (k n : ℕ) → length (digits_of k n) ≤ k
unfolding digits_of
length_digits zero n = omega arith
length_digits (suc k) n = go (ltb n 10) (length_digits k (n / 10))
  where
    go : (b : Bool) → length (digits_of k (n / 10)) ≤ k → length (digit_after b (digits_of k (n / 10)) n) ≤ suc k
    go true h = omega arith
    go false h = simp length-append (omega arith)

pub length-decimal : (n : ℕ) → length (decimal n) ≤ 20
unfolding decimal
length-decimal n = length_digits 20 n

-- ---- the digits

-- k places are enough for a number below 10 ^ k: one more changes nothing
more-places : (k n : ℕ) → n < 10 ^ suc k → digits_of (suc (suc k)) n ≡ digits_of (suc k) n
unfolding digits_of
more-places zero n h = let small : n < 10 = omega arith in simp (lt-ltb n 10 small)
more-places (suc k) n h = go (ltb n 10) (more-places k (n / 10) (omega arith))
  where
    go : (b : Bool) → digits_of (suc (suc k)) (n / 10) ≡ digits_of (suc k) (n / 10)
        → digit_after b (digits_of (suc (suc k)) (n / 10)) n ≡ digit_after b (digits_of (suc k) (n / 10)) n
    go true e = refl
    go false e = ap (λ (l : List ℕ). l ++ digit (n % 10) ∷ []) e

pub decimal-small : (n : ℕ) → n < 10 → decimal n ≡ digit n ∷ []
unfolding decimal digits_of
decimal-small n h = simp (lt-ltb n 10 h)

pub decimal-more : (n : ℕ) → 10 ≤ n → n < 10 ^ 20 → decimal n ≡ decimal (n / 10) ++ digit (n % 10) ∷ []
unfolding decimal digits_of
decimal-more n l h = simp (le-ltb n 10 l) (ap (λ (x : List ℕ). x ++ digit (n % 10) ∷ []) (sym (more-places 18 (n / 10) (omega arith))))
