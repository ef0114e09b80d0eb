-- Small facts of numbers: one rounded up is at least the number, and less than one alignment above it; the order of two;
-- n words of w bytes; tests on differences and on two orders; and of lists: a map, the first elements, one element, of a list made of two. Assumes nothing.
use Prim.Native.Nat.{ℕ, zero, suc, ◌+◌, ◌-◌, ◌*◌, ◌≤◌, ◌<◌}
use native.Mathlib.Nat.{div-add-mod', mod-lt, mul-add, mul-suc, mul-le-mul_left, sub-zero, suc-sub-suc, suc-add}
use native.Mathlib.Omega.{arith}
use mathlib.Core.Path.{◌≡◌, refl, sym, ap, ◌∙◌}
use mathlib.Core.Logic.{◌⊎◌, inl, inr, ⊎_elim}
use mathlib.Core.List.{List, [], ◌∷◌, ◌++◌, map}
use mathlib.Core.Bool.{Bool, true, false, ◌&&◌}
use lib.Dec.{leb, ltb, eqb}
use lib.ListN.{length, get_or, take, set, replicate, length-take}
use lib.Seq.{get_or-set_same, get_or-set_other}
use borrow.Author.Tests.{le-leb, lt-leb, leb-true, leb-false, lt-ltb, le-ltb, eq-eqb, ne_eqb, eqb-true, eqb-false}
use Rattle.base_words.specs.Basics.{round_up}
use Rattle.base_words.proofs.Tests.{and_yes}

pub round-up-least : (x a : ℕ) → 0 < a → x ≤ round_up x a
unfolding round_up
round-up-least x a h = omega (arith, div-add-mod' (x + (a - 1)) a, mod-lt (x + (a - 1)) h)

pub round-up-most : (x a : ℕ) → 0 < a → round_up x a < x + a
unfolding round_up
round-up-most x a h = omega (arith, div-add-mod' (x + (a - 1)) a)

pub le-or-lt : (a b : ℕ) → (a ≤ b) ⊎ (b < a)
le-or-lt zero b = inl (omega arith)
le-or-lt (suc a) zero = inr (omega arith)
le-or-lt (suc a) (suc b) = ⊎_elim (λ h. inl (omega arith)) (λ h. inr (omega arith)) (le-or-lt a b)

-- n words of w bytes: the first m, and those after them
pub words-split : (w m n : ℕ) → m ≤ n → w * m + w * (n - m) ≡ w * n
words-split w m n h = let x : m + (n - m) ≡ n = omega arith in sym (mul-add w m (n - m)) ∙ ap (λ (y : ℕ). w * y) x

-- the first, and those after it
pub words-turn : (w n : ℕ) → 0 < n → w * n ≡ w + w * (n - 1)
words-turn w zero h = absurd (omega arith)
words-turn w (suc n) h = let e : suc n - 1 ≡ n = omega arith in rw e (omega (arith, mul-suc w n))

-- the j-th lies in them
pub word_in : (w n j : ℕ) → j < n → w * j + w ≤ w * n
word_in w n j h = omega (arith, mul-suc w j, mul-le-mul_left {m = suc j} {n = n} w h)

-- a word before the last byte is one of them
pub word-before : (w j n m : ℕ) → w * j + m < w * n → j < n
word-before w j n m h = ⊎_elim (λ k. absurd (omega (arith, mul-le-mul_left w k))) (λ k. k) (le-or-lt n j)

-- ---- tests

pub leb-sub : (x n l : ℕ) → n ≤ l → leb x (l - n) ≡ leb (x + n) l
leb-sub x n l h = go (leb x (l - n)) refl
  where
    go : (b : Bool) → leb x (l - n) ≡ b → b ≡ leb (x + n) l
    go true q = let k : x ≤ l - n = leb-true x (l - n) q in sym (le-leb (x + n) l (omega arith))
    go false q = let k : l - n < x = leb-false x (l - n) q in sym (lt-leb (x + n) l (omega arith))

pub leb-sub-left : (n a e : ℕ) → a ≤ e → leb n (e - a) ≡ leb (a + n) e
leb-sub-left n a e h = leb-sub n a e h ∙ (let x : n + a ≡ a + n = omega arith in ap (λ (y : ℕ). leb y e) x)

pub eqb-sub : (p u e : ℕ) → u ≤ e → eqb p (e - u) ≡ eqb (p + u) e
eqb-sub p u e h = go (eqb (p + u) e) refl
  where
    go : (b : Bool) → eqb (p + u) e ≡ b → eqb p (e - u) ≡ b
    go true x = let y = eqb-true (p + u) e x in eq-eqb p (e - u) (omega arith)
    go false x = let y = eqb-false (p + u) e x in ne_eqb p (e - u) (λ z. y (omega arith))

-- between two numbers, or at one of them
pub between : (a n b : ℕ) → (leb a n && leb n b) ≡ true → (a ≤ n) × (n ≤ b)
between a n b e = let p = and_yes (leb a n) (leb n b) e in (leb-true a n p.0, leb-true n b p.1)

-- two pairs that are ordered alike
pub same-ltb : (a b c d : ℕ) → (c < d → a < b) → (d ≤ c → b ≤ a) → ltb a b ≡ ltb c d
same-ltb a b c d f g = ⊎_elim (λ h. le-ltb a b (g h) ∙ sym (le-ltb c d h)) (λ h. lt-ltb a b (f h) ∙ sym (lt-ltb c d h)) (le-or-lt d c)

-- ---- lists

pub map-append : {A B : Type 0} (f : A → B) (l m : List A) → map f (l ++ m) ≡ map f l ++ map f m
map-append f [] m = refl
map-append {A} {B} f (x ∷ l) m = ap (λ (t : List B). f x ∷ t) (map-append f l m)

-- a list that is filled up with what stands past its end
pub get_or-filled : {A : Type 0} (x : A) (l : List A) (n i : ℕ) → get_or (l ++ replicate n x) i x ≡ get_or l i x
get_or-filled x [] zero i = refl
get_or-filled x [] (suc n) zero = refl
get_or-filled x [] (suc n) (suc i) = get_or-filled x [] n i
get_or-filled x (y ∷ l) n zero = refl
get_or-filled x (y ∷ l) n (suc i) = get_or-filled x l n i

pub take_short : (n : ℕ) (l : List ℕ) → length (take n l) ≤ n
take_short n l = omega (arith, length-take n l)

-- the first elements of two lists, past the first one
pub take_past : {A : Type 0} (n : ℕ) (a b : List A) → length a ≤ n → take n (a ++ b) ≡ a ++ take (n - length a) b
take_past n [] b h = rw (sub-zero n)
take_past zero (x ∷ a) b h = absurd (omega arith)
take_past {A} (suc n) (x ∷ a) b h = rw (suc-sub-suc n (length a)) (ap (λ (t : List A). x ∷ t) (take_past n a b (omega arith)))

-- an element stored in the second of two lists
pub set-behind : {A : Type 0} (xs ys : List A) (n i : ℕ) (v : A) → length xs ≡ n → set (xs ++ ys) (n + i) v ≡ xs ++ set ys i v
set-behind [] ys n i v h = let e : n + i ≡ i = omega arith in rw e
set-behind (x ∷ xs) ys zero i v h = absurd (omega arith)
set-behind {A} (x ∷ xs) ys (suc n) i v h = rw (suc-add n i) (ap (λ (t : List A). x ∷ t) (set-behind xs ys n i v (omega arith)))

-- an element that is v stays v where what is stored over it is v too
pub set_holds : (l : List ℕ) (i j a v : ℕ) → i < length l → (j ≡ i → a ≡ v) → get_or l j 0 ≡ v → get_or (set l i a) j 0 ≡ v
set_holds l i j a v h same e = go (eqb j i) refl
  where
    go : (b : Bool) → eqb j i ≡ b → get_or (set l i a) j 0 ≡ v
    go true q = let x = eqb-true j i q in rw x (get_or-set_same l i a 0 h ∙ same x)
    go false q = get_or-set_other l i j a 0 (eqb-false j i q) ∙ e
