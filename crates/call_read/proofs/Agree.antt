-- A float in FPRs and in general registers: which bytes 26 compares. Assumes nothing.
use mathlib.Core.Path.{◌≡◌, refl, sym, ap, ap₂, ◌∙◌}
use mathlib.Core.Bool.{true, false}
use mathlib.Core.List.{List, [], ◌∷◌}
use Prim.Native.Nat.{ℕ, zero, suc, ◌+◌, ◌-◌, ◌*◌, ◌≤◌, ◌<◌, min}
use native.Mathlib.Omega.{arith}
use native.Mathlib.Nat.{mul-le-mul_left}
use native.Mathlib.Numerals.{add-one}
use borrow.Author.Tests.{eq-eqb, ne_eqb}
use lib.ListN.{length, take, drop, get_or, drop_of_length-le}
use lib.Seq.{take_all, length-take-le, get_or-take, drop-cons}
use Rattle.base_words.specs.Splice.{overlay, part}
use Rattle.base_words.proofs.Splices.{length_part, part-short, take-overlay}
use Rattle.sig_types.specs.declared.Equivalent.{Equivalent}
use Rattle.sig_types.specs.Sizes.{equivalent_of}
use Rattle.plan_places.specs.declared.CallRules.{CallRules}
use Rattle.plan_places.specs.Step.{word_of}
use Rattle.call_registers.specs.Registers.{gather}
use Rattle.call_registers.proofs.Registers.{length-gather}
use Rattle.call_slots.specs.Buffers.{Buffers, bytes_at}
use Rattle.call_slots.specs.Forms.{own_start, float_value_as, float_value}
use Rattle.call_slots.specs.Placements.{Placement, fpr_bytes_at}
use Rattle.call_slots.specs.Helpers.{FloatSized}
use Rattle.call_unmarshal.proofs.Arguments.{own_first, float-length}
use Rattle.call_read.specs.Read.{same_bytes, own_held, agrees}
use Rattle.call_read.specs.Helpers.{Compared}

-- ---- the same bytes

pub same_refl : (l : List ℕ) → same_bytes l l ≡ true
unfolding same_bytes
same_refl [] = refl
same_refl (x ∷ l) = simp (eq-eqb x x refl) (same_refl l)

same_next : (x y : ℕ) (a b : List ℕ) → x ≡ y → same_bytes (x ∷ a) (y ∷ b) ≡ same_bytes a b
unfolding same_bytes
same_next x y a b e = simp (eq-eqb x y e)

same_not : (x y : ℕ) (a b : List ℕ) → (x ≡ y → ⊥) → same_bytes (x ∷ a) (y ∷ b) ≡ false
unfolding same_bytes
same_not x y a b e = simp (ne_eqb x y e)

same_none : same_bytes [] [] ≡ true
unfolding same_bytes
same_none = refl

-- a loop that compares the first n bytes of two lists: i of them are the same
pub record Comparing (a b : List ℕ) (n i : ℕ) : Type 0 where
  pub rest : same_bytes (drop i (take n a)) (drop i (take n b)) ≡ same_bytes (take n a) (take n b)

pub comparing-start : (a b : List ℕ) (n : ℕ) → Comparing a b n 0
comparing-start a b n = record { rest = refl }

module _ (a b : List ℕ) (n : ℕ) (within : n ≤ length a) (within' : n ≤ length b) where
  first : (l : List ℕ) → n ≤ length l → (i : ℕ) → i < n → drop i (take n l) ≡ get_or l i 0 ∷ drop (suc i) (take n l)
  first l h i k =
      drop-cons (take n l) i 0 (omega (arith, length-take-le n l h)) ∙ ap (λ (x : ℕ). x ∷ drop (suc i) (take n l)) (get_or-take n l i 0 k)

  pub comparing-more : (i : ℕ) → i < n → get_or a i 0 ≡ get_or b i 0 → Comparing a b n i → Comparing a b n (i + 1)
  comparing-more i k same c = record {
    rest = rw add-one (sym (same_next _ _ (drop (suc i) (take n a)) (drop (suc i) (take n b)) same) ∙ ap₂ same_bytes (sym (first a within i k)) (sym (first b within' i k)) ∙ c.rest);
  }

  pub comparing-not : (i : ℕ) → i < n → (get_or a i 0 ≡ get_or b i 0 → ⊥) → Comparing a b n i → false ≡ same_bytes (take n a) (take n b)
  comparing-not i k other c =
      sym (same_not _ _ (drop (suc i) (take n a)) (drop (suc i) (take n b)) other) ∙ ap₂ same_bytes (sym (first a within i k)) (sym (first b within' i k)) ∙ c.rest

  pub comparing-end : (i : ℕ) → n ≤ i → Comparing a b n i → true ≡ same_bytes (take n a) (take n b)
  comparing-end i k c =
      let x : length (take n a) ≤ i = omega (arith, length-take-le n a within) in
      let y : length (take n b) ≤ i = omega (arith, length-take-le n b within') in
      sym same_none ∙ ap₂ same_bytes (sym (drop_of_length-le (take n a) x)) (sym (drop_of_length-le (take n b) y)) ∙ c.rest

-- ---- the bytes that are compared

-- no float has more than sixteen bytes
float-most : (e : Equivalent) (m n : ℕ) → FloatSized e m n → n ≤ 16
float-most Equivalent.Single m n h = omega (arith, h.1)
float-most Equivalent.Double m n h = omega (arith, h.1)
float-most Equivalent.Nothing m n h = omega (arith, h.1)

module _ (r : CallRules) (p : Placement) (b : Buffers) where
  -- without general registers nothing is compared
  pub agrees-alone : p.span.general.count ≡ 0 → agrees r p b ≡ true
  unfolding agrees own_held gather same_bytes
  agrees-alone e = rw e (none (own_start r p.ty p.size) p.size)
    where
      none : (lo n : ℕ) → same_bytes (part lo n []) (take (length (part lo n [])) (float_value r p.ty (fpr_bytes_at p.span b))) ≡ true
      none zero zero = refl
      none zero (suc n) = refl
      none (suc lo) zero = refl
      none (suc lo) (suc n) = refl

  module _ (h : Compared r p b) where
    abbrev image : List ℕ
    image = part (8 * p.span.general.first) (8 * p.span.general.count) b.image

    abbrev held : ℕ
    held = word_of r * p.span.general.count

    abbrev own : ℕ
    own = own_start r p.ty p.size

    pub words-length : length (gather (word_of r) p.span.general.count image) ≡ held
    words-length =
        let size = length_part (8 * p.span.general.first) (8 * p.span.general.count) b.image (omega (arith, h.registers.general, h.registers.image)) in
        length-gather (word_of r) p.span.general.count image h.registers.held.word.1 (omega arith)

    -- the first of its own bytes is in a general register
    pub own_held_lem : own < held
    own_held_lem =
        let first = own_first r p h.registers.held (h.registers.held.direct h.float) in
        let some : 1 ≤ p.span.general.count = h.also in
        omega (arith, mul-le-mul_left (word_of r) some)

    value-size : (floats : List ℕ) → floats ≡ fpr_bytes_at p.span b → length (float_value_as r (equivalent_of p.ty) floats) ≡ p.size
    unfolding bytes_at
    value-size floats e =
        let size = length_part (256 + 8 * p.span.floating.first) (8 * p.span.floating.count) b.image (omega (arith, h.registers.floating, h.registers.image)) in
        rw e (float-length r (equivalent_of p.ty) (fpr_bytes_at p.span b) p.span.floating.count p.size (h.registers.held.float h.float) size h.exact)

    pub value-most : p.size ≤ 16
    value-most = float-most (equivalent_of p.ty) p.span.floating.count p.size (h.registers.held.float h.float)

    -- the m of its own bytes that stand in general registers, and as many of the value, each at the head of a buffer
    pub agrees-compared : (x y : List ℕ) (m : ℕ) → length x ≡ 16 → length y ≡ 16 → m ≡ min p.size (held - own)
        → same_bytes (take m (overlay x (part own m (gather (word_of r) p.span.general.count image)))) (take m (overlay y (float_value_as r (equivalent_of p.ty) (fpr_bytes_at p.span b))))
        ≡ agrees r p b
    unfolding agrees own_held float_value bytes_at
    agrees-compared x y m lx ly e =
        let g : List ℕ = gather (word_of r) p.span.general.count image in
        let lg : length g ≡ held = words-length in
        let few : own + m ≤ held = omega (arith, own_held_lem) in
        let o : List ℕ = part own m g in
        let lo : length o ≡ m = length_part own m g (omega arith) in
        let v : List ℕ = float_value_as r (equivalent_of p.ty) (fpr_bytes_at p.span b) in
        let lv : length v ≡ p.size = value-size (fpr_bytes_at p.span b) refl in
        let whole : part own p.size g ≡ o = part-short own p.size g ∙ ap (λ (z : ℕ). part own z g) (ap (λ (z : ℕ). min p.size (z - own)) lg ∙ sym e) in
        let left : take m (overlay x o) ≡ o = take-overlay x o m (omega arith) (omega (arith, value-most)) ∙ take_all m o (omega arith) in
        let right : take m (overlay y v) ≡ take m v = take-overlay y v m (omega arith) (omega (arith, value-most)) in
        ap₂ same_bytes left right ∙ sym (ap (λ (l : List ℕ). same_bytes l (take (length l) v)) whole ∙ ap (λ (z : ℕ). same_bytes o (take z v)) lo)
