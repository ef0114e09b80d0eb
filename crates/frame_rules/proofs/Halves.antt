-- Registers that fit a word, and registers less their high halves. Assumes nothing.
use Prim.Native.Nat.{ℕ, zero, suc, ◌+◌, ◌-◌, ◌%◌, ◌≤◌, ◌<◌}
use mathlib.Core.Path.{◌≡◌, refl, sym, ◌∙◌}
use mathlib.Core.Logic.{⊎_elim}
use mathlib.Core.Bool.{Bool, true, false}
use Rattle.std.proofs.Common.{◌↔◌}
use mathlib.Core.List.{List}
use native.Mathlib.Omega.{arith}
use native.Mathlib.Nat.{mod-lt, mod-eq_of_lt}
use lib.ListN.{get_or, set, length, length-set, get_or-eq_default}
use lib.Seq.{get_or-set_other, set-get_or}
use Rattle.std.proofs.lemmas.List.{set_comm}
use lib.Dec.{leb}
use borrow.Author.Tests.{leb-true, le-leb}
use Rattle.base_words.proofs.Basics.{le-or-lt}
use Rattle.base_words.proofs.Tests.{and_yes}
use Rattle.base_words.proofs.Fitting.{fit_at}
use Rattle.frame_rules.specs.Frames.{all_within, lowered}

-- all of the first n are at most m exactly where each is
pub within-each : (m : ℕ) (xs : List ℕ) (n : ℕ) → all_within m xs n ≡ true → (i : ℕ) → i < n → get_or xs i 0 ≤ m
unfolding all_within
within-each m xs zero e i h = absurd (omega arith)
within-each m xs (suc n) e i h =
    let p = and_yes (leb (get_or xs n 0) m) _ e in
    ⊎_elim (λ q. within-each m xs n p.1 i q) (λ q. let x : i ≡ n = omega arith in rw x (leb-true (get_or xs n 0) m p.0)) (le-or-lt (suc i) n)

pub each-below : (m : ℕ) (xs : List ℕ) (n : ℕ) → ((i : ℕ) → i < n → get_or xs i 0 ≤ m) → all_within m xs n ≡ true
unfolding all_within
each-below m xs zero h = refl
each-below m xs (suc n) h = rw (le-leb (get_or xs n 0) m (h n (omega arith))) (each-below m xs n (λ i r. h i (omega arith)))

pub each_within : (m : ℕ) (xs : List ℕ) (n : ℕ) → ((i : ℕ) → get_or xs i 0 ≤ m) → all_within m xs n ≡ true
each_within m xs n h = each-below m xs n (λ i r. h i)

pub lowered-length : (m : ℕ) (xs : List ℕ) (n : ℕ) → length (lowered m xs n) ≡ length xs
unfolding lowered
lowered-length m xs zero = refl
lowered-length m xs (suc n) = lowered-length m (set xs n (get_or xs n 0 % (m + 1))) n ∙ length-set xs n (get_or xs n 0 % (m + 1))

-- where those from n on fit, all fit once the first n are lowered
pub lowered-fit : (m n : ℕ) (xs : List ℕ) → ((i : ℕ) → n ≤ i → get_or xs i 0 ≤ m) → (i : ℕ) → get_or (lowered m xs n) i 0 ≤ m
unfolding lowered
lowered-fit m zero xs h i = h i (omega arith)
lowered-fit m (suc n) xs h i =
    let x = get_or xs n 0 % (m + 1) in
    let pos : 0 < m + 1 = omega arith in
    let low : x ≤ m = omega (arith, mod-lt (get_or xs n 0) pos) in
    lowered-fit m n (set xs n x)
    (λ j p. ⊎_elim (λ q. let e = get_or-set_other xs n j x 0 (λ z. omega arith) in omega (arith, h j q, e)) (λ q. let y : j ≡ n = omega arith in rw y (fit_at xs n x m low)) (le-or-lt (suc n) j))
    i

-- registers of 64 bits are as they came where a word has 64 bits
pub lowered-same : (m n : ℕ) (xs : List ℕ) → ((i : ℕ) → get_or xs i 0 ≤ m) → lowered m xs n ≡ xs
unfolding lowered
lowered-same m zero xs h = refl
lowered-same m (suc n) xs h = let e : get_or xs n 0 % (m + 1) ≡ get_or xs n 0 = mod-eq_of_lt (omega (arith, h n)) in rw (e, set-get_or xs n 0) (lowered-same m n xs h)

-- a test that holds exactly where each number is at most m is the definition's
pub within-decides : (m : ℕ) (xs : List ℕ) (n : ℕ) (b : Bool) → n ≡ length xs → (b ≡ true ↔ ((i : ℕ) → i < length xs → get_or xs i 0 ≤ m)) → b ≡ all_within m xs n
within-decides m xs n true q h =
    sym (each-below m xs n (λ i r. h.0 refl i (omega (arith, q))))
within-decides m xs n false q h = go (all_within m xs n) refl
  where
    go : (a : Bool) → all_within m xs n ≡ a → false ≡ a
    go false e = refl
    go true e = h.1 (λ i r. within-each m xs n e i (omega (arith, q)))

-- lowering one number first changes nothing
pub lowered-again : (m n i : ℕ) (xs : List ℕ) → i < n → lowered m (set xs i (get_or xs i 0 % (m + 1))) n ≡ lowered m xs n
unfolding lowered
lowered-again m zero i xs h = absurd (omega arith)
lowered-again m (suc n) i xs h =
    let y = get_or xs i 0 % (m + 1) in
    let x = get_or xs n 0 % (m + 1) in
    ⊎_elim
    (λ q.
    let e : get_or (set xs i y) n 0 ≡ get_or xs n 0 = get_or-set_other xs i n y 0 (λ z. omega arith) in
    let f : get_or (set xs n x) i 0 ≡ get_or xs i 0 = get_or-set_other xs n i x 0 (λ z. omega arith) in
    rw (e, set_comm xs i n y x (λ z. omega arith)) (rw f at (lowered-again m n i (set xs n x) q)))
    (λ q.
    let same : i ≡ n = omega arith in
    let pos : 0 < m + 1 = omega arith in
    let low : x ≤ m = omega (arith, mod-lt (get_or xs n 0) pos) in
    let e : get_or (set xs n x) n 0 % (m + 1) ≡ get_or (set xs n x) n 0 = mod-eq_of_lt (omega (arith, fit_at xs n x m low)) in
    rw (same, e, set-get_or (set xs n x) n 0) refl)
    (le-or-lt (suc i) n)

-- a loop over the numbers lowers one more, and at its end there is nothing left to lower
pub lowered-more : (m i : ℕ) (xs : List ℕ) → ((k : ℕ) → k < i → get_or xs k 0 ≤ m) → (k : ℕ) → k < i + 1 → get_or (set xs i (get_or xs i 0 % (m + 1))) k 0 ≤ m
lowered-more m i xs h k r =
    let x = get_or xs i 0 % (m + 1) in
    let pos : 0 < m + 1 = omega arith in
    let low : x ≤ m = omega (arith, mod-lt (get_or xs i 0) pos) in
    ⊎_elim
    (λ q. let e = get_or-set_other xs i k x 0 (λ z. omega arith) in omega (arith, h k q, e))
    (λ q. let y : k ≡ i = omega arith in rw y (fit_at xs i x m low))
    (le-or-lt (suc k) i)

pub lowered-end : (m n : ℕ) (xs : List ℕ) → length xs ≡ n → ((k : ℕ) → k < n → get_or xs k 0 ≤ m) → xs ≡ lowered m xs n
lowered-end m n xs e h =
    sym (lowered-same m n xs (λ i. ⊎_elim (λ q. h i q) (λ q. omega (arith, get_or-eq_default xs 0 {n = i} (omega (arith, e)))) (le-or-lt (suc i) n)))
