-- The laws of a fact of each of several (`All`). Assumes nothing.
use mathlib.Core.List.{List, [], ◌∷◌, ◌++◌, map}
use Prim.Native.Nat.{ℕ, zero, suc, ◌<◌}
use native.Mathlib.Omega.{arith}
use lib.ListN.{length, get_or}
use Rattle.base_words.specs.Basics.{All}

module _ {A : Type 0} where
  pub each_none : (P : A → Type 0) → All P []
  unfolding All
  each_none P = tt

  pub each_both : (P : A → Type 0) (xs ys : List A) → All P xs → All P ys → All P (xs ++ ys)
  unfolding All
  each_both P [] ys h k = k
  each_both P (x ∷ xs) ys h k = (h.0, each_both P xs ys h.1 k)

  pub each_left : (P : A → Type 0) (xs ys : List A) → All P (xs ++ ys) → All P xs
  unfolding All
  each_left P [] ys h = tt
  each_left P (x ∷ xs) ys h = (h.0, each_left P xs ys h.1)

  pub each_right : (P : A → Type 0) (xs ys : List A) → All P (xs ++ ys) → All P ys
  unfolding All
  each_right P [] ys h = h
  each_right P (x ∷ xs) ys h = each_right P xs ys h.1

  pub each_more : (P Q : A → Type 0) → ((x : A) → P x → Q x) → (xs : List A) → All P xs → All Q xs
  unfolding All
  each_more P Q f [] h = tt
  each_more P Q f (x ∷ xs) h = (f x h.0, each_more P Q f xs h.1)

  pub each-with : (P Q R : A → Type 0) → ((x : A) → P x → Q x → R x) → (xs : List A) → All P xs → All Q xs → All R xs
  unfolding All
  each-with P Q R f [] h k = tt
  each-with P Q R f (x ∷ xs) h k = (f x h.0 k.0, each-with P Q R f xs h.1 k.1)

  pub each_three : (P Q R S : A → Type 0) → ((x : A) → P x → Q x → R x → S x) → (xs : List A) → All P xs → All Q xs → All R xs → All S xs
  each_three P Q R S f xs h k l =
      each-with (λ x. P x × Q x) R S (λ x p r. f x p.0 p.1 r) xs (each-with P Q (λ x. P x × Q x) (λ x p q. (p, q)) xs h k) l

  pub each_map : {B : Type 0} (f : A → B) (P : B → Type 0) (xs : List A) → All (λ x. P (f x)) xs → All P (map f xs)
  unfolding All
  each_map f P [] h = tt
  each_map f P (x ∷ xs) h = (h.0, each_map f P xs h.1)

  -- by the index
  pub each-get : (P : A → Type 0) (d : A) (xs : List A) (i : ℕ) → i < length xs → All P xs → P (get_or xs i d)
  unfolding All
  each-get P d [] i l h = absurd (omega arith)
  each-get P d (x ∷ xs) zero l h = h.0
  each-get P d (x ∷ xs) (suc i) l h = each-get P d xs i (omega arith) h.1

  pub each_at : (P : A → Type 0) (d : A) (xs : List A) → ((i : ℕ) → P (get_or xs i d)) → All P xs
  unfolding All
  each_at P d [] h = tt
  each_at P d (x ∷ xs) h = (h 0, each_at P d xs (λ i. h (suc i)))
