-- The arguments that words hold: one after the other, and one more. Assumes nothing.
use Prim.Native.Nat.{ℕ, zero, suc, ◌+◌, ◌-◌, ◌*◌, ◌≤◌, ◌<◌}
use mathlib.Core.Path.{◌≡◌, refl, sym, ap, ap₂, ◌∙◌}
use mathlib.Core.List.{List, [], ◌∷◌, ◌++◌}
use mathlib.Core.Bool.{Bool}
use mathlib.Core.Logic.{inl}
use native.Mathlib.Omega.{arith}
use native.Mathlib.Numerals.{add-one}
use lib.ListN.{length, drop, get_or, drop_of_length-le}
use Rattle.base_words.specs.Splice.{splice}
use Rattle.base_words.proofs.Splices.{splice-at-same, splice-at-other}
use Rattle.base_conventions.specs.declared.Convention.{Convention}
use Rattle.sig_types.specs.declared.ValueType.{ValueType}
use Rattle.sig_types.specs.Sizes.{size_of}
use Rattle.plan_places.specs.declared.RegisterRange.{RegisterRange}
use Rattle.plan_places.specs.declared.ByteRange.{ByteRange}
use Rattle.plan_places.specs.declared.Span.{Span}
use Rattle.plan_places.specs.Places.{Numbered}
use Rattle.call_slots.specs.Placements.{Placement, placement}
use Rattle.call_kept.specs.Helpers.{Codable, type_from, range_from, flag_from, row_of, span_from, kept_at, kept_from, kept_all}
use Rattle.call_kept.proofs.Codes.{type-back, range_back, flag-back}

-- ---- one after the other

module _ (c : Convention) (l : List ℕ) where
  pub kept-length : (i n : ℕ) → length (kept_from c l i n) ≡ n
  unfolding kept_from
  kept-length i zero = refl
  kept-length i (suc n) = ap suc (kept-length (suc i) n)

  -- the argument at hand, of those from j on
  hand-from : (j i n : ℕ) → i < n → drop i (kept_from c l j n) ≡ kept_at c l (i + j) ∷ drop (suc i) (kept_from c l j n)
  unfolding kept_from
  hand-from j i zero h = absurd (omega arith)
  hand-from j zero (suc n) h = let q : j ≡ 0 + j = omega arith in ap (λ (k : ℕ). kept_at c l k ∷ kept_from c l (suc j) n) q
  hand-from j (suc i) (suc n) h =
      let q : i + suc j ≡ suc i + j = omega arith in
      hand-from (suc j) i n (omega arith) ∙ ap (λ (k : ℕ). kept_at c l k ∷ drop (suc i) (kept_from c l (suc j) n)) q

  pub kept-hand : (i n : ℕ) → i < n → drop i (kept_all c l n) ≡ kept_at c l i ∷ drop (suc i) (kept_all c l n)
  kept-hand i n h = let q : i + 0 ≡ i = omega arith in hand-from 0 i n h ∙ ap (λ (k : ℕ). kept_at c l k ∷ drop (suc i) (kept_all c l n)) q

  -- as its type, its size and its span
  pub kept-placed : (i n : ℕ) → i < n → (t : ValueType) (m : ℕ) (s : Span) → t ≡ type_from (get_or l (10 * i) 0) → m ≡ size_of c t → s ≡ span_from l (10 * i)
      → drop i (kept_all c l n) ≡ placement t m s ∷ drop (suc i) (kept_all c l n)
  unfolding kept_at
  kept-placed i n h t m s p q e = rw (q, p, e) (kept-hand i n h)

  pub kept-end : (i n : ℕ) → n ≤ i → drop i (kept_all c l n) ≡ []
  kept-end i n h = let all : length (kept_all c l n) ≤ i = omega (arith, kept-length 0 n) in drop_of_length-le (kept_all c l n) all

  -- the last one
  last-from : (j n : ℕ) → kept_from c l j (suc n) ≡ kept_from c l j n ++ kept_at c l (n + j) ∷ []
  unfolding kept_from
  last-from j zero = let q : j ≡ 0 + j = omega arith in ap (λ (k : ℕ). kept_at c l k ∷ []) q
  last-from j (suc n) =
      let q : n + suc j ≡ suc n + j = omega arith in
      ap (λ (m : List Placement). kept_at c l j ∷ m) (last-from (suc j) n ∙ ap (λ (k : ℕ). kept_from c l (suc j) n ++ kept_at c l k ∷ []) q)

-- ---- one row more

module _ (c : Convention) (l : List ℕ) (n : ℕ) (t : ValueType) (s : Span) where
  -- words before it are what they were
  before : (i : ℕ) → i < 10 * n → get_or (splice l (10 * n) (row_of t s)) i 0 ≡ get_or l i 0
  before i h = splice-at-other l (10 * n) (row_of t s) i 0 (inl (omega arith))

  kept-before : (i : ℕ) → i < n → kept_at c (splice l (10 * n) (row_of t s)) i ≡ kept_at c l i
  unfolding kept_at span_from
  kept-before i h =
      rw (before (10 * i) (omega arith), before (10 * i + 1) (omega arith), before (10 * i + 2) (omega arith), before (10 * i + 3) (omega arith), before (10 * i + 4) (omega arith), before (10 * i + 5) (omega arith), before (10 * i + 6) (omega arith), before (10 * i + 7) (omega arith), before (10 * i + 8) (omega arith), before (10 * i + 9) (omega arith))

  all-before : (i m : ℕ) → i + m ≤ n → kept_from c (splice l (10 * n) (row_of t s)) i m ≡ kept_from c l i m
  unfolding kept_from
  all-before i zero h = refl
  all-before i (suc m) h = ap₂ (λ (p : Placement) (ps : List Placement). p ∷ ps) (kept-before i (omega arith)) (all-before (suc i) m (omega arith))

  module _ (room : 10 * n + 10 ≤ length l) (codable : Codable t) (numbered : Numbered s) where
    here : (i : ℕ) → i < 10 → get_or (splice l (10 * n) (row_of t s)) (10 * n + i) 0 ≡ get_or (row_of t s) i 0
    here i h = splice-at-same l (10 * n) (row_of t s) i 0 (omega arith) (omega arith)

    first : get_or (splice l (10 * n) (row_of t s)) (10 * n) 0 ≡ get_or (row_of t s) 0 0
    first = let q : 10 * n ≡ 10 * n + 0 = omega arith in ap (λ (i : ℕ). get_or (splice l (10 * n) (row_of t s)) i 0) q ∙ here 0 (omega arith)

    kept_here : kept_at c (splice l (10 * n) (row_of t s)) n ≡ placement t (size_of c t) s
    unfolding kept_at span_from
    kept_here =
        rw (first, here 1 (omega arith), here 2 (omega arith), here 3 (omega arith), here 4 (omega arith), here 5 (omega arith), here 6 (omega arith), here 7 (omega arith), here 8 (omega arith), here 9 (omega arith), type-back t codable, range_back s.general (omega arith), range_back s.floating (omega arith), flag-back s.indirect)

    pub kept_more : kept_all c (splice l (10 * n) (row_of t s)) (n + 1) ≡ kept_all c l n ++ placement t (size_of c t) s ∷ []
    kept_more =
        let q : n + 0 ≡ n = omega arith in
        rw add-one
        (last-from c (splice l (10 * n) (row_of t s)) 0 n
        ∙ ap₂ (λ (ps : List Placement) (p : Placement). ps ++ p ∷ []) (all-before 0 n (omega arith)) (ap (kept_at c (splice l (10 * n) (row_of t s))) q ∙ kept_here))
