-- The slots of one argument, by the way that it is passed. Assumes nothing.
use mathlib.Core.Path.{◌≡◌, refl, sym, ap, ap₂, subst, ◌∙◌}
use mathlib.Core.Bool.{Bool, true, false}
use mathlib.Core.List.{List, ◌++◌}
use mathlib.Core.Logic.{◌⊎◌, inl, inr}
use Prim.Native.Nat.{ℕ, ◌+◌, ◌-◌, ◌*◌, ◌≤◌, ◌<◌}
use native.Mathlib.Omega.{arith}
use native.Mathlib.Nat.{mul-le-mul_right}
use borrow.Author.Tests.{eqb-true, eqb-false}
use lib.Dec.{eqb}
use lib.ListN.{length, take, replicate}
use lib.Seq.{take_all}
use Rattle.base_words.specs.Splice.{splice, part}
use Rattle.base_words.specs.Numbers.{bytes_of, value_of}
use Rattle.base_words.proofs.Basics.{le-or-lt}
use Rattle.base_words.proofs.Splices.{splice-nothing}
use Rattle.sig_types.specs.declared.Equivalent.{Equivalent}
use Rattle.sig_types.specs.declared.ValueType.{ValueType}
use Rattle.sig_types.specs.Sizes.{equivalent_of}
use Rattle.plan_places.specs.declared.CallRules.{CallRules}
use Rattle.plan_places.specs.Step.{word_of}
use Rattle.call_registers.specs.Registers.{spread}
use Rattle.call_slots.specs.Buffers.{buffers, general_at, floating_at, put, put_all}
use Rattle.call_slots.specs.Forms.{room_of, starts_at_head, extended, home_bytes, float_form, float_bytes}
use Rattle.call_slots.specs.Placements.{Placement, standing, copy_bytes, slots_of}
use Rattle.call_slots.specs.Helpers.{FloatSized, Held}
use Rattle.call_marshal.specs.Helpers.{NumberFits, FprsTake}
use Rattle.call_slots.proofs.Limits.{form-length, one_word, one_address, one-doubleword}

-- FPRs have room for their float
pub float-room : (e : Equivalent) (m n l : ℕ) → FloatSized e m n → 8 * m ≤ l → FprsTake e n l
float-room Equivalent.Single m n l h k = (h.1, omega (arith, h.0))
float-room Equivalent.Double m n l h k = omega (arith, h.0, h.1)
float-room Equivalent.Nothing m n l h k = omega (arith, h.0, h.1)

module _ (r : CallRules) (base : ℕ) (p : Placement) (v image area copies : List ℕ) (h : Held r p) where
  -- what FPRs have room for is the whole form
  pub fprs-some : 0 < p.span.floating.count → length v ≡ p.size → float_form r (equivalent_of p.ty) v ≡ take (8 * p.span.floating.count) (float_bytes r p.ty v)
  unfolding float_bytes
  fprs-some some size =
      let k : ℕ = p.span.floating.count in
      let f : List ℕ = float_form r (equivalent_of p.ty) v in
      let sized : FloatSized (equivalent_of p.ty) k (length v) = rw size (h.float some) in
      sym (take_all (8 * k) f (omega (arith, form-length r (equivalent_of p.ty) k v sized)))

  pub fprs-none : p.span.floating.count ≤ 0 → splice image (floating_at p.span.floating.first) (take (8 * p.span.floating.count) (float_bytes r p.ty v)) ≡ image
  fprs-none none = let no : p.span.floating.count ≡ 0 = omega arith in rw (no, splice-nothing)

  -- who is passed by a pointer has no FPR
  pub pointer-alone : p.span.indirect ≡ true → p.span.floating.count ≤ 0
  pointer-alone e = go (le-or-lt p.span.floating.count 0)
    where
      go : (p.span.floating.count ≤ 0) ⊎ (0 < p.span.floating.count) → p.span.floating.count ≤ 0
      go (inl none) = none
      go (inr some) = let z : ◌≡◌ {A = ℕ} 0 1 = cc (h.direct some, e) in absurd (omega arith)

  -- in FPRs, where it has any, and in words, which are those of the value
  pub argument-direct : (i j a : List ℕ) → p.span.indirect ≡ false → length v ≡ p.size
      → i ≡ splice image (floating_at p.span.floating.first) (take (8 * p.span.floating.count) (float_bytes r p.ty v))
      → j ≡ splice i (general_at p.span.general.first) (spread (word_of r) p.span.general.count (home_bytes r p.ty (length v) v))
      → a ≡ splice area p.span.memory.start (part (word_of r * p.span.general.count) p.span.memory.length (home_bytes r p.ty (length v) v))
      → buffers j a copies ≡ put_all (slots_of r base p v) (buffers image area copies)
  unfolding slots_of put_all put standing
  argument-direct i j a direct size x y z = rw (direct, splice-nothing, ← size, ← x, ← y, ← z)

  -- in general registers and memory, where the words bs stand there
  pub argument-words : (bs i a c : List ℕ) → p.span.floating.count ≤ 0 → standing r base p v ≡ bs
      → i ≡ splice image (general_at p.span.general.first) (spread (word_of r) p.span.general.count bs)
      → a ≡ splice area p.span.memory.start (part (word_of r * p.span.general.count) p.span.memory.length bs)
      → c ≡ splice copies p.span.copy.start (copy_bytes p v)
      → buffers i a c ≡ put_all (slots_of r base p v) (buffers image area copies)
  unfolding slots_of put_all put
  argument-words bs i a c none e x y z =
      let f : List ℕ = float_bytes r p.ty v in
      let fpr = fprs-none none in
      let i' : splice (splice image (floating_at p.span.floating.first) (take (8 * p.span.floating.count) f)) (general_at p.span.general.first) (spread (word_of r) p.span.general.count (standing r base p v)) ≡ i =
      ap₂ (λ (l m : List ℕ). splice l (general_at p.span.general.first) (spread (word_of r) p.span.general.count m)) fpr e ∙ sym x in
      let a' : splice area p.span.memory.start (part (word_of r * p.span.general.count) p.span.memory.length (standing r base p v)) ≡ a =
      ap (λ (m : List ℕ). splice area p.span.memory.start (part (word_of r * p.span.general.count) p.span.memory.length m)) e ∙ sym y in
      rw (i', a', ← z)

-- what stands in the words: the address of a copy, or the value
pub stands-address : (r : CallRules) (base : ℕ) (p : Placement) (v : List ℕ) → Held r p → p.span.floating.count ≤ 0 → p.span.indirect ≡ true
    → standing r base p v ≡ bytes_of (word_of r * p.span.general.count + p.span.memory.length) (base + p.span.copy.start)
unfolding standing
stands-address r base p v h none e = rw (e, one_word r p h none e)

pub stands-value : (r : CallRules) (base : ℕ) (p : Placement) (v : List ℕ) → p.span.indirect ≡ false → length v ≡ p.size
    → standing r base p v ≡ home_bytes r p.ty (length v) v
unfolding standing
stands-value r base p v e n = rw (e, n)

-- the value from its head on, or at the end of its words, which have `room` bytes
pub home-head : (r : CallRules) (t : ValueType) (v : List ℕ) (room : ℕ) → starts_at_head r t ≡ true → room ≡ room_of r (length v)
    → v ++ replicate (room - length v) 0 ≡ home_bytes r t (length v) v
unfolding home_bytes
home-head r t v room s e = rw (s, e)

pub home-end : (r : CallRules) (t : ValueType) (v : List ℕ) (room : ℕ) → starts_at_head r t ≡ false → room ≡ room_of r (length v)
    → bytes_of room (extended t (length v) (value_of v)) ≡ home_bytes r t (length v) v
unfolding home_bytes
home-end r t v room s e = rw (s, e)

-- what stands at the end of its words is a number of at most eight bytes
pub number_fits : (r : CallRules) (p : Placement) → Held r p → p.span.indirect ≡ false → starts_at_head r p.ty ≡ false
    → 0 < word_of r * p.span.general.count + p.span.memory.length → NumberFits (word_of r) p.span
number_fits r p h d e some =
    let small = h.small e d in
    let words = h.also some in (
      omega (arith, h.room d, words, small),
      λ x. subst (λ (w : ℕ). w * p.span.general.count + p.span.memory.length ≡ 8) x (words ∙ one-doubleword r p.size x small.0 small.1),
    )

-- where there are no words nothing is put; k words of w bytes in registers, m bytes in memory
pub words-none : (l a bs : List ℕ) (g s w k m : ℕ) → eqb (k + m) 0 ≡ true → (l ≡ splice l g (spread w k bs)) × (a ≡ splice a s (part (w * k) m bs))
unfolding spread
words-none l a bs g s w k m e =
    let both = eqb-true (k + m) 0 e in
    let no : k ≡ 0 = omega arith in
    let none : m ≡ 0 = omega arith in
    (rw (no, splice-nothing), rw (none, splice-nothing))

pub words-some : (w k m : ℕ) → 1 ≤ w → eqb (k + m) 0 ≡ false → 0 < w * k + m
words-some w k m least e =
    let d : k + m ≡ 0 → ⊥ = eqb-false (k + m) 0 e in
    omega (arith, mul-le-mul_right k least)

-- no copy is put where there is none
pub copy-none : (p : Placement) (v copies : List ℕ) → p.span.indirect ≡ false → copies ≡ splice copies p.span.copy.start (copy_bytes p v)
copy-none p v copies e = rw (e, splice-nothing)

pub copy-put : (p : Placement) (v copies : List ℕ) → p.span.indirect ≡ true
    → splice copies p.span.copy.start (copy_bytes p v) ≡ splice copies p.span.copy.start v
copy-put p v copies e = rw e
