-- That a list has given bytes from a place on; of an item's bytes, its tag, its length and its body. Assumes nothing.
use Prim.Native.Nat.{ℕ, zero, suc, ◌+◌, ◌<◌}
use mathlib.Core.Path.{◌≡◌, ap, ◌∙◌}
use mathlib.Core.List.{List, [], ◌∷◌, ◌++◌, append_assoc}
use lib.ListN.{length, get_or, length-append}
use lib.Seq.{ext_get_or, get_or-append_seam}
use native.Mathlib.Omega.{arith}
use Rattle.base_words.specs.Numbers.{Bytes}
use Rattle.sig_items.specs.Read.{length_at}
use Rattle.sig_items.specs.Encode.{item}

unfoldable pub Has : List ℕ → ℕ → List ℕ → Type 0
Has s at [] = Unit {0}
Has s at (x ∷ l) = (get_or s at 0 ≡ x) × Has s (at + 1) l

module _ (s : List ℕ) where
  pub has_move : (l : List ℕ) (a b : ℕ) → a ≡ b → Has s a l → Has s b l
  has_move l a b e h = rw e at h

  pub has-append : (a b : List ℕ) (at : ℕ) → Has s at a → Has s (at + length a) b → Has s at (a ++ b)
  unfolding Has
  has-append [] b at h k = has_move b (at + 0) at (omega arith) k
  has-append (x ∷ a) b at h k = (h.0, has-append a b (at + 1) h.1 (has_move b (at + suc (length a)) (at + 1 + length a) (omega arith) k))

  pub has_left : (a b : List ℕ) (at : ℕ) → Has s at (a ++ b) → Has s at a
  unfolding Has
  has_left [] b at h = tt
  has_left (x ∷ a) b at h = (h.0, has_left a b (at + 1) h.1)

  pub has_right : (a b : List ℕ) (at : ℕ) → Has s at (a ++ b) → Has s (at + length a) b
  unfolding Has
  has_right [] b at h = has_move b at (at + 0) (omega arith) h
  has_right (x ∷ a) b at h = has_move b (at + 1 + length a) (at + suc (length a)) (omega arith) (has_right a b (at + 1) h.1)

  -- an item, from its parts: only here it matters that s has bytes
  pub has-item : Bytes s → (tag : ℕ) (body : List ℕ) (at : ℕ) → get_or s at 0 ≡ tag → length_at s at ≡ length body → Has s (at + 3) body → Has s at (item tag body)
  unfolding Has item
  has-item bytes tag body at t l h =
      let high = bytes (at + 1) in
      let low = bytes (at + 2) in
      let same : get_or s (at + 1 + 1) 0 ≡ get_or s (at + 2) 0 = ap (λ i. get_or s i 0) (omega arith) in
      (t, (omega arith, (omega arith, has_move body (at + 3) (at + 1 + 1 + 1) (omega arith) h)))

  module _ (tag : ℕ) (body : List ℕ) (at : ℕ) (h : Has s at (item tag body)) where
    pub item-tag : get_or s at 0 ≡ tag
    unfolding Has item
    item-tag = h.0

    pub item-length : length body ≡ length_at s at
    unfolding Has item
    item-length =
        let same : get_or s (at + 1 + 1) 0 ≡ get_or s (at + 2) 0 = ap (λ i. get_or s i 0) (omega arith) in
        let high = h.1.0 in
        let low = h.1.1.0 in
        omega arith

    pub item-body : Has s (at + 3) body
    unfolding Has item
    item-body = has_move body (at + 1 + 1 + 1) (at + 3) (omega arith) h.1.1.1

pub item-byte : (s : List ℕ) (tag x at : ℕ) → Has s at (item tag (x ∷ [])) → get_or s (at + 3) 0 ≡ x
unfolding Has
item-byte s tag x at h = (item-body s tag (x ∷ []) at h).0

pub length-item : (tag : ℕ) (body : List ℕ) → length (item tag body) ≡ 3 + length body
unfolding item
length-item tag body = omega arith

-- a list has itself, and no other list of its length

has-after : (p l : List ℕ) → Has (p ++ l) (length p) l
unfolding Has
has-after p [] = tt
has-after p (x ∷ l) =
    let more : Has ((p ++ x ∷ []) ++ l) (length (p ++ x ∷ [])) l = has-after (p ++ x ∷ []) l in
    let size = length-append p (x ∷ []) in
    (get_or-append_seam p x l 0, has_move (p ++ x ∷ l) l (length (p ++ x ∷ [])) (length p + 1) (omega arith) (rw append_assoc at more))

pub has_all : (l : List ℕ) → Has l 0 l
has_all l = has-after [] l

has-get : (s l : List ℕ) (at i : ℕ) → Has s at l → i < length l → get_or s (at + i) 0 ≡ get_or l i 0
unfolding Has
has-get s [] at i h q = absurd (omega arith)
has-get s (x ∷ l) at zero h q = ap (λ k. get_or s k 0) (omega arith) ∙ h.0
has-get s (x ∷ l) at (suc i) h q =
    let same : at + suc i ≡ at + 1 + i = omega arith in
    ap (λ k. get_or s k 0) same ∙ has-get s l (at + 1) i h.1 (omega arith)

pub has_same : (s l : List ℕ) → length s ≡ length l → Has s 0 l → s ≡ l
has_same s l e h = ext_get_or 0 s l e (λ i q.
    let same : i ≡ 0 + i = omega arith in
    ap (λ k. get_or s k 0) same ∙ has-get s l 0 i h (omega arith))
