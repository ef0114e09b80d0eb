-- How many bytes two lists have in common: byte by byte, and part after part. Assumes nothing.
use mathlib.Core.Path.{◌≡◌, refl, sym, ap, ap₂, ◌∙◌}
use mathlib.Core.Bool.{Bool, true, false}
use mathlib.Core.List.{List, [], ◌∷◌, ◌++◌}
use Prim.Native.Nat.{ℕ, suc, ◌+◌, ◌≤◌, ◌<◌, max}
use native.Mathlib.Omega.{arith}
use native.Mathlib.Nat.{add-zero, zero-add}
use native.Mathlib.Numerals.{add-one}
use borrow.Author.Tests.{eq-eqb, ne_eqb}
use lib.Dec.{eqb}
use lib.ListN.{length, get_or, take, drop, length-drop}
use lib.Seq.{drop-cons, drop-drop}
use Rattle.base_words.specs.Basics.{pick}
use Rattle.plan_text.specs.Writing.{Wrote}
use Rattle.base_words.proofs.Splices.{splice-same}
use Rattle.std.proofs.Common.{Some, None, Ok}
use Rattle.plan_stored.specs.Stored.{alike, compared}

-- ---- at most the shorter length

pub alike-left : (xs ys : List ℕ) → alike xs ys ≤ length xs
unfolding alike
alike-left [] ys = omega arith
alike-left (x ∷ xs) [] = omega arith
alike-left (x ∷ xs) (y ∷ ys) = go (eqb x y) (alike-left xs ys)
  where
    go : (b : Bool) → alike xs ys ≤ length xs → pick b (suc (alike xs ys)) 0 ≤ suc (length xs)
    go true h = omega arith
    go false h = omega arith

pub alike_right : (xs ys : List ℕ) → alike xs ys ≤ length ys
unfolding alike
alike_right [] ys = omega arith
alike_right (x ∷ xs) [] = omega arith
alike_right (x ∷ xs) (y ∷ ys) = go (eqb x y) (alike_right xs ys)
  where
    go : (b : Bool) → alike xs ys ≤ length ys → pick b (suc (alike xs ys)) 0 ≤ suc (length ys)
    go true h = omega arith
    go false h = omega arith

-- ---- byte by byte

-- i bytes from `at` on are the same
pub record Even (xs ys : List ℕ) (at i : ℕ) : Type 0 where
  pub rest : i + alike (drop (at + i) xs) (drop i ys) ≡ alike (drop at xs) ys
  pub within : at + i ≤ length xs

pub even-start : (xs ys : List ℕ) (at : ℕ) → at ≤ length xs → Even xs ys at 0
even-start xs ys at h = record { rest = rw (add-zero at) (zero-add (alike (drop at xs) ys)); within = omega arith }

pub even-more : (xs ys : List ℕ) (at i : ℕ) → at + i < length xs → i < length ys → get_or xs (at + i) 0 ≡ get_or ys i 0 → Even xs ys at i → Even xs ys at (i + 1)
unfolding alike
even-more xs ys at i h k e g =
    let next : at + (i + 1) ≡ suc (at + i) = omega arith in
    let turn : i + suc (alike (drop (suc (at + i)) xs) (drop (suc i) ys)) ≡ alike (drop at xs) ys =
    rw (drop-cons xs (at + i) 0 h, drop-cons ys i 0 k, eq-eqb (get_or xs (at + i) 0) (get_or ys i 0) e) at g.rest in
    record { rest = rw (next, add-one i) (omega (arith, turn)); within = omega arith }

pub even-differs : (xs ys : List ℕ) (at i : ℕ) → at + i < length xs → i < length ys → (get_or xs (at + i) 0 ≡ get_or ys i 0 → ⊥) → Even xs ys at i
    → at + i ≡ at + alike (drop at xs) ys
unfolding alike
even-differs xs ys at i h k e g =
    let end : i + 0 ≡ alike (drop at xs) ys = rw (drop-cons xs (at + i) 0 h, drop-cons ys i 0 k, ne_eqb (get_or xs (at + i) 0) (get_or ys i 0) e) at g.rest in
    omega (arith, end)

-- one is a part of the other
pub even-short : (xs ys : List ℕ) (at i : ℕ) → length xs ≤ at + i → Even xs ys at i → at + i ≡ at + alike (drop at xs) ys
even-short xs ys at i h g =
    let none = length-drop (at + i) xs in
    let left = alike-left (drop (at + i) xs) (drop i ys) in
    omega (arith, g.rest, none, left)

pub even-long : (xs ys : List ℕ) (at i : ℕ) → length ys ≤ i → Even xs ys at i → at + i ≡ at + alike (drop at xs) ys
even-long xs ys at i h g =
    let none = length-drop i ys in
    let right = alike_right (drop (at + i) xs) (drop i ys) in
    omega (arith, g.rest, none, right)

-- ---- part after part: comparing what is joined is comparing the first part, and where that is all there, the other from there on

pub alike-through : (xs ys zs : List ℕ) → length ys ≤ alike xs ys → alike xs (ys ++ zs) ≡ length ys + alike (drop (length ys) xs) zs
unfolding alike
alike-through xs [] zs h = sym (zero-add (alike xs zs))
alike-through [] (y ∷ ys) zs h = absurd (omega arith)
alike-through (x ∷ xs) (y ∷ ys) zs h = go (eqb x y) h (alike-through xs ys zs)
  where
    go : (b : Bool) → suc (length ys) ≤ pick b (suc (alike xs ys)) 0
        → (length ys ≤ alike xs ys → alike xs (ys ++ zs) ≡ length ys + alike (drop (length ys) xs) zs)
        → pick b (suc (alike xs (ys ++ zs))) 0 ≡ suc (length ys) + alike (drop (length ys) xs) zs
    go true k more = omega (arith, more (omega arith))
    go false k more = absurd (omega arith)

pub alike-stops : (xs ys zs : List ℕ) → alike xs ys < length ys → alike xs (ys ++ zs) ≡ alike xs ys
unfolding alike
alike-stops xs [] zs h = absurd (omega (arith, alike_right xs []))
alike-stops [] (y ∷ ys) zs h = refl
alike-stops (x ∷ xs) (y ∷ ys) zs h = go (eqb x y) h (alike-stops xs ys zs)
  where
    go : (b : Bool) → pick b (suc (alike xs ys)) 0 < suc (length ys) → (alike xs ys < length ys → alike xs (ys ++ zs) ≡ alike xs ys)
        → pick b (suc (alike xs (ys ++ zs))) 0 ≡ pick b (suc (alike xs ys)) 0
    go true k more = ap suc (more (omega arith))
    go false k more = refl

-- the stored bytes xs are the whole's up to `at`, and from there on `rest` is to come
pub record Abreast (xs whole rest : List ℕ) (at : ℕ) : Type 0 where
  pub ahead : at + alike (drop at xs) rest ≡ alike xs whole
  pub within : at ≤ length xs

pub abreast-start : (xs whole : List ℕ) → Abreast xs whole whole 0
abreast-start xs whole = record { ahead = zero-add (alike xs whole); within = omega arith }

module _ (xs whole part rest : List ℕ) (at to : ℕ) (g : Abreast xs whole (part ++ rest) at) (reached : to ≡ at + alike (drop at xs) part) where
  pub abreast-more : at + length part ≤ to → Abreast xs whole rest to
  abreast-more h =
      let most = alike_right (drop at xs) part in
      let room = alike-left (drop at xs) part in
      let left = length-drop at xs in
      let through = alike-through (drop at xs) part rest (omega (arith, reached)) in
      let here : at + length part ≡ to = omega (arith, reached, most) in
      let same : drop (length part) (drop at xs) ≡ drop to xs = drop-drop (length part) at xs ∙ ap (λ (n : ℕ). drop n xs) here in
      let further : alike (drop (length part) (drop at xs)) rest ≡ alike (drop to xs) rest = ap (λ (l : List ℕ). alike l rest) same in
      record { ahead = omega (arith, g.ahead, through, here, further); within = omega (arith, here, room, left, reached, g.within) }

  pub abreast-stops : to < at + length part → to ≡ alike xs whole
  abreast-stops h =
      let stops = alike-stops (drop at xs) part rest (omega (arith, reached)) in
      omega (arith, g.ahead, stops, reached)

pub abreast-end : (xs whole part : List ℕ) (at to : ℕ) → Abreast xs whole part at → to ≡ at + alike (drop at xs) part → to ≡ alike xs whole
abreast-end xs whole part at to g reached = omega (arith, g.ahead, reached)

-- ---- the first bytes of a buffer with a text at its head are the text
pub wrote-head : (a b : List ℕ) (n : ℕ) (t : List ℕ) → Wrote a b 0 n t → n ≤ length a → take n b ≡ t
wrote-head a b n t w h =
    let many : n ≡ length t = omega (arith, w.end) in
    ap₂ take many w.bytes ∙ splice-same a 0 t (omega arith)

-- a part that was made at the head of a buffer, n bytes of it
module _ (xs whole a b t : List ℕ) (at n to : ℕ) (w : Wrote a b 0 n t) (room : n ≤ length a) (reached : to ≡ at + alike (drop at xs) (take n b)) where
  made : to ≡ at + alike (drop at xs) t
  made = reached ∙ ap (λ (l : List ℕ). at + alike (drop at xs) l) (wrote-head a b n t w room)

  pub made_more : (rest : List ℕ) → Abreast xs whole (t ++ rest) at → at + n ≤ to → Abreast xs whole rest to
  made_more rest g h = abreast-more xs whole t rest at to g made (omega (arith, w.end))

  pub made-stops : (rest : List ℕ) → Abreast xs whole (t ++ rest) at → to < at + n → to ≡ alike xs whole
  made-stops rest g h = abreast-stops xs whole t rest at to g made (omega (arith, w.end))

  pub made-end : Abreast xs whole t at → to ≡ alike xs whole
  made-end g = abreast-end xs whole t at to g made

-- ---- the answer, by the common bytes and both lengths

module _ (xs ys : List ℕ) (n : ℕ) (common : n ≡ alike xs ys) where
  pub compared-long : n < length xs → Ok (Some n) ≡ compared xs ys
  unfolding compared
  compared-long h =
      let other : n ≡ max (length xs) (length ys) → ⊥ = λ e. omega arith in
      rw (sym common, ne_eqb n (max (length xs) (length ys)) other)

  pub compared-short : n < length ys → Ok (Some n) ≡ compared xs ys
  unfolding compared
  compared-short h =
      let other : n ≡ max (length xs) (length ys) → ⊥ = λ e. omega arith in
      rw (sym common, ne_eqb n (max (length xs) (length ys)) other)

  pub compared-all : length xs ≤ n → length ys ≤ n → Ok None ≡ compared xs ys
  unfolding compared
  compared-all h k =
      let all : n ≡ max (length xs) (length ys) = omega (arith, common, alike-left xs ys, alike_right xs ys) in
      rw (sym common, eq-eqb n (max (length xs) (length ys)) all)
