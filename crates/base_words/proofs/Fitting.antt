-- Lists whose numbers are all below b, and what is made of them: past its end a list reads 0. Assumes nothing.
use mathlib.Core.List.{List, [], ◌∷◌, ◌++◌}
use Prim.Native.Nat.{ℕ, zero, suc, ◌+◌, ◌<◌, ◌≤◌}
use native.Mathlib.Omega.{arith}
use lib.ListN.{get_or, take, drop, set, replicate}
use lib.Seq.{get_or-drop}

pub fit-replicate : (n x b : ℕ) → x < b → (i : ℕ) → get_or (replicate n x) i 0 < b
fit-replicate zero x b h i = omega arith
fit-replicate (suc n) x b h zero = h
fit-replicate (suc n) x b h (suc i) = fit-replicate n x b h i

pub fit_append : (l m : List ℕ) (b : ℕ) → ((i : ℕ) → get_or l i 0 < b) → ((i : ℕ) → get_or m i 0 < b) → (i : ℕ) → get_or (l ++ m) i 0 < b
fit_append [] m b hl hm i = hm i
fit_append (x ∷ l) m b hl hm zero = hl 0
fit_append (x ∷ l) m b hl hm (suc i) = fit_append l m b (λ j. hl (suc j)) hm i

pub fit-take : (n : ℕ) (l : List ℕ) (b : ℕ) → ((i : ℕ) → get_or l i 0 < b) → (i : ℕ) → get_or (take n l) i 0 < b
fit-take zero l b h i = omega (arith, h 0)
fit-take (suc n) [] b h i = h i
fit-take (suc n) (x ∷ l) b h zero = h 0
fit-take (suc n) (x ∷ l) b h (suc i) = fit-take n l b (λ j. h (suc j)) i

pub fit-drop : (n : ℕ) (l : List ℕ) (b : ℕ) → ((i : ℕ) → get_or l i 0 < b) → (i : ℕ) → get_or (drop n l) i 0 < b
fit-drop n l b h i = rw (get_or-drop n l i 0) (h (n + i))

-- one number stored: alone, and among the others
pub fit_at : (l : List ℕ) (n x m : ℕ) → x ≤ m → get_or (set l n x) n 0 ≤ m
fit_at [] n x m h = omega arith
fit_at (y ∷ l) zero x m h = h
fit_at (y ∷ l) (suc n) x m h = fit_at l n x m h

pub fit-set : (l : List ℕ) (j x b : ℕ) → ((i : ℕ) → get_or l i 0 < b) → x < b → (i : ℕ) → get_or (set l j x) i 0 < b
fit-set [] j x b h p i = h i
fit-set (y ∷ l) zero x b h p zero = p
fit-set (y ∷ l) zero x b h p (suc i) = h (suc i)
fit-set (y ∷ l) (suc j) x b h p zero = h 0
fit-set (y ∷ l) (suc j) x b h p (suc i) = fit-set l j x b (λ k. h (suc k)) p i
