-- The span of each argument has room for exactly its form, in each convention. Assumes nothing.
use mathlib.Core.Path.{◌≡◌, refl, sym, subst}
use mathlib.Core.Bool.{Bool, true, false, false≢true}
use Prim.Native.Nat.{ℕ, zero, suc, ◌+◌, ◌-◌, ◌*◌, ◌/◌, ◌≤◌, ◌<◌}
use native.Mathlib.Omega.{arith}
use native.Mathlib.Nat.{mul-zero, mul-suc, mul_comm, mod-lt, div-add-mod'}
use borrow.Author.Tests.{eqb-true, leb-false}
use lib.Dec.{leb, eqb}
use Rattle.base_words.specs.Basics.{pick}
use Rattle.base_words.proofs.Basics.{words-split}
use Rattle.base_conventions.specs.declared.Convention.{Convention}
use Rattle.sig_types.specs.declared.FloatFormat.{FloatFormat}
use Rattle.sig_types.specs.declared.Equivalent.{Equivalent}
use Rattle.sig_types.specs.declared.ValueType.{ValueType}
use Rattle.sig_types.specs.Sizes.{integer_size, size_of, equivalent_of}
use Rattle.sig_types.proofs.Laws.{integer-most}
use Rattle.plan_places.specs.declared.Cursor.{Cursor}
use Rattle.plan_places.specs.declared.CallRules.{CallRules}
use Rattle.plan_places.specs.declared.ZClass.{ZClass}
use Rattle.plan_places.specs.Values.{share}
use Rattle.plan_places.specs.Power.{words, fprs, covered, share_of, power_share, power_span}
use Rattle.plan_places.specs.ZSeries.{z_class, z_floating, z_span_of, by_size, by_equivalent}
use Rattle.plan_places.specs.declared.Edition.{Edition}
use Rattle.plan_places.specs.Step.{rules_of, with_ellipsis, span_of}
use Rattle.call_slots.specs.Forms.{struct_at_head, starts_at_head}
use Rattle.call_slots.specs.Placements.{placement}
use Rattle.call_slots.specs.Helpers.{FloatSized, Held}
use Rattle.call_slots.proofs.Typed.{EquivalentSized, Typed}

-- ---- PowerPC, over the bytes w of a word

-- a struct at the end of its words is smaller than a doubleword
struct-end : (w n : ℕ) → struct_at_head w n ≡ false → n < 8
unfolding struct_at_head
struct-end w n = go (eqb w 8)
  where
    go : (b : Bool) → pick b (leb 8 n) true ≡ false → n < 8
    go true e = leb-false 8 n e
    go false e = absurd (false≢true (sym e))

-- the FPRs that a type asks for hold a value of it, in any convention
fprs-sized : (e : Edition) (c : Convention) (t : ValueType) → 0 < fprs e t → FloatSized (equivalent_of t) (fprs e t) (size_of c t)
unfolding fprs
fprs-sized e c (ValueType.Integer x) h = absurd (omega arith)
fprs-sized e c (ValueType.Float FloatFormat.Single) h = (refl, refl)
fprs-sized e c (ValueType.Float FloatFormat.Double) h = (refl, refl)
fprs-sized Edition.Earlier c (ValueType.Float FloatFormat.LongDouble) h = absurd (omega arith)
fprs-sized Edition.Later c (ValueType.Float FloatFormat.LongDouble) h = (refl, refl)
fprs-sized e c (ValueType.Struct s) h = absurd (omega arith)

module _ (w : ℕ) (least : 4 ≤ w) (most : w ≤ 8) where
  -- n bytes in words: none too few and none too many
  pub words-room : (n : ℕ) → (n ≤ w * words w n) × (w * words w n < n + w)
  unfolding words
  words-room n =
      let d = div-add-mod' (n + (w - 1)) w in
      let some : 0 < w = omega arith in
      let m = mod-lt (n + (w - 1)) some in
      (omega (arith, d, m, mul_comm ((n + (w - 1)) / w) w), omega (arith, d, mul_comm ((n + (w - 1)) / w) w))

  -- no word of memory is begun and not ended
  whole_words : (m : ℕ) → 0 < w * m → w ≤ w * m
  whole_words zero h = absurd (omega (arith, mul-zero w))
  whole_words (suc m) h = omega (arith, mul-suc w m)

  module _ (e : Edition) (v : Bool) where
    abbrev rules : CallRules
    rules = CallRules.Power (record { word = w; edition = e; ellipsis = v })

    -- what stands at the end of its words has at most 64 bits
    end-small : (c : Convention) (t : ValueType) → Typed c t → starts_at_head rules t ≡ false → (1 ≤ size_of c t) × (size_of c t ≤ 8)
    unfolding starts_at_head
    end-small c (ValueType.Integer x) h q = (h.sized.some, (integer-most c x).1)
    end-small c (ValueType.Float FloatFormat.Single) h q = (omega arith, omega arith)
    end-small c (ValueType.Float FloatFormat.Double) h q = (omega arith, omega arith)
    end-small c (ValueType.Float FloatFormat.LongDouble) h q = absurd (false≢true (sym q))
    end-small c (ValueType.Struct s) h q = (h.sized.some, omega (arith, struct-end w s.size q))

    module _ (k : Cursor) (t : ValueType) (n : ℕ) (small : starts_at_head rules t ≡ false → (1 ≤ n) × (n ≤ 8)) where
      -- in words, and in m FPRs or none
      power-words : (m : ℕ) → (0 < m → FloatSized (equivalent_of t) m n)
          → Held rules (placement t n (power_span w k (words w n) (share (covered k (words w n)) m (words w n - covered k (words w n)))))
      power-words m f =
          let g : ℕ = covered k (words w n) in
          let s = words-split w g (words w n) (omega arith) in
          record {
            word = (least, most);
            direct = λ q. refl;
            float = f;
            words = λ q. omega (arith, s);
            also = λ q. omega (arith, s);
            stored = λ q. whole_words (words w n - g) q;
            room = λ q. words-room n;
            whole = λ q. refl;
            small = λ q d. small q;
            address = λ q. absurd (false≢true q);
            copied = λ q. absurd (false≢true q);
          }

      -- in m FPRs alone, or in memory alone once these are used up
      power-float : (m : ℕ) → 0 < m → FloatSized (equivalent_of t) m n → (b : Bool)
          → Held rules (placement t n (power_span w k (words w n) (pick b (share 0 m 0) (share 0 0 (words w n)))))
      power-float m some f true = record {
        word = (least, most);
        direct = λ q. refl;
        float = λ q. f;
        words = λ q. absurd (omega arith);
        also = λ q. absurd (omega (arith, mul-zero w));
        stored = λ q. whole_words 0 q;
        room = λ q. words-room n;
        whole = λ q. refl;
        small = λ q d. small q;
        address = λ q. absurd (false≢true q);
        copied = λ q. absurd (false≢true q);
      }
      power-float m some f false = record {
        word = (least, most);
        direct = λ q. refl;
        float = λ q. absurd (omega arith);
        words = λ q. omega (arith, mul-zero w);
        also = λ q. omega (arith, mul-zero w);
        stored = λ q. whole_words (words w n) q;
        room = λ q. words-room n;
        whole = λ q. refl;
        small = λ q d. small q;
        address = λ q. absurd (false≢true q);
        copied = λ q. absurd (false≢true q);
      }

      -- where it asks for m FPRs, by the ways through `share_of`
      power-share : (x : Bool) (m room : ℕ) → (0 < m → FloatSized (equivalent_of t) m n)
          → Held rules (placement t n (power_span w k (words w n) (share_of x m room (words w n) (covered k (words w n)))))
      unfolding share_of
      power-share x zero room f = power-words 0 (λ h. absurd (omega arith))
      power-share false (suc m) room f = power-float (suc m) (omega arith) (f (omega arith)) (leb (suc m) room)
      power-share true (suc m) room f = go (leb (suc m) room)
        where
          go : (b : Bool)
              → Held rules (placement t n (power_span w k (words w n) (share (covered k (words w n)) (pick b (suc m) 0) (words w n - covered k (words w n)))))
          go true = power-words (suc m) f
          go false = power-words 0 (λ h. absurd (omega arith))

    -- at every cursor, for every type and its size in any convention, in each edition, with an ellipsis or without
    pub power-held : (c : Convention) (k : Cursor) (t : ValueType) → Typed c t → Held rules (placement t (size_of c t) (span_of rules k t (size_of c t)))
    unfolding span_of power_share
    power-held c k t h = power-share k t (size_of c t) (end-small c t h) v (fprs e t) (14 - k.floating) (fprs-sized e c t)

-- ---- Z

-- an FPR or eight bytes of the stack
z-float : (k : Cursor) (t : ValueType) (n : ℕ) → FloatSized (equivalent_of t) 1 n → 1 ≤ n → n ≤ 8 → Held CallRules.Z (placement t n (z_span_of k ZClass.Float n))
unfolding z_span_of starts_at_head
z-float k t n f one eight = record {
  word = (omega arith, omega arith);
  direct = λ e. refl;
  float = λ e. let m : 1 ≡ z_floating k = omega arith in subst (λ (m : ℕ). FloatSized (equivalent_of t) m n) m f;
  words = λ e. omega arith;
  also = λ e. omega arith;
  stored = λ e. omega arith;
  room = λ e. (eight, omega arith);
  whole = λ e. refl;
  small = λ e d. (one, eight);
  address = λ e. absurd (false≢true e);
  copied = λ e. absurd (false≢true e);
}

z-simple : (k : Cursor) (t : ValueType) (n : ℕ) → 1 ≤ n → n ≤ 8 → Held CallRules.Z (placement t n (z_span_of k ZClass.Simple n))
unfolding z_span_of starts_at_head
z-simple k t n one eight = record {
  word = (omega arith, omega arith);
  direct = λ e. refl;
  float = λ e. absurd (omega arith);
  words = λ e. omega arith;
  also = λ e. omega arith;
  stored = λ e. omega arith;
  room = λ e. (eight, omega arith);
  whole = λ e. refl;
  small = λ e d. (one, eight);
  address = λ e. absurd (false≢true e);
  copied = λ e. absurd (false≢true e);
}

-- the address of a copy
z-reference : (k : Cursor) (t : ValueType) (n : ℕ) → Held CallRules.Z (placement t n (z_span_of k ZClass.Reference n))
unfolding z_span_of starts_at_head
z-reference k t n = record {
  word = (omega arith, omega arith);
  direct = λ e. absurd (omega arith);
  float = λ e. absurd (omega arith);
  words = λ e. omega arith;
  also = λ e. omega arith;
  stored = λ e. omega arith;
  room = λ e. absurd (false≢true (sym e));
  whole = λ e. absurd (false≢true e);
  small = λ e d. absurd (false≢true (sym d));
  address = λ e. (refl, refl);
  copied = λ e. refl;
}

-- a struct of 1, 2, 4 or 8 bytes, or a copy
z-sized : (k : Cursor) (t : ValueType) (n : ℕ) → Held CallRules.Z (placement t n (z_span_of k (by_size n) n))
z-sized k t n = one (eqb n 1) refl
  where
    simple : 1 ≤ n → n ≤ 8 → Held CallRules.Z (placement t n (z_span_of k ZClass.Simple n))
    simple a b = z-simple k t n a b

    eight : (b : Bool) → eqb n 8 ≡ b → Held CallRules.Z (placement t n (z_span_of k (pick b ZClass.Simple ZClass.Reference) n))
    eight true e = let q = eqb-true n 8 e in simple (omega arith) (omega arith)
    eight false e = z-reference k t n

    four : (b : Bool) → eqb n 4 ≡ b → Held CallRules.Z (placement t n (z_span_of k (pick b ZClass.Simple (pick (eqb n 8) ZClass.Simple ZClass.Reference)) n))
    four true e = let q = eqb-true n 4 e in simple (omega arith) (omega arith)
    four false e = eight (eqb n 8) refl

    two : (b : Bool) → eqb n 2 ≡ b
        → Held CallRules.Z (placement t n (z_span_of k (pick b ZClass.Simple (pick (eqb n 4) ZClass.Simple (pick (eqb n 8) ZClass.Simple ZClass.Reference))) n))
    two true e = let q = eqb-true n 2 e in simple (omega arith) (omega arith)
    two false e = four (eqb n 4) refl

    one : (b : Bool) → eqb n 1 ≡ b
        → Held CallRules.Z
        (placement t n (z_span_of k (pick b ZClass.Simple (pick (eqb n 2) ZClass.Simple (pick (eqb n 4) ZClass.Simple (pick (eqb n 8) ZClass.Simple ZClass.Reference)))) n))
    one true e = let q = eqb-true n 1 e in simple (omega arith) (omega arith)
    one false e = two (eqb n 2) refl

z-struct : (k : Cursor) (t : ValueType) (n : ℕ) (e : Equivalent) → equivalent_of t ≡ e → EquivalentSized e n
    → Held CallRules.Z (placement t n (z_span_of k (by_equivalent e n) n))
z-struct k t n Equivalent.Nothing q f = z-sized k t n
z-struct k t n Equivalent.Single q f = z-float k t n (rw q (refl, f)) (omega arith) (omega arith)
z-struct k t n Equivalent.Double q f = z-float k t n (rw q (refl, f)) (omega arith) (omega arith)

z-held : (k : Cursor) (t : ValueType) → Typed Convention.Z t → Held CallRules.Z (placement t (size_of Convention.Z t) (span_of CallRules.Z k t (size_of Convention.Z t)))
unfolding span_of z_class
z-held k (ValueType.Integer x) h = z-simple k (ValueType.Integer x) (integer_size Convention.Z x) h.sized.some (integer-most Convention.Z x).1
z-held k (ValueType.Float FloatFormat.Single) h = z-float k (ValueType.Float FloatFormat.Single) 4 (refl, refl) (omega arith) (omega arith)
z-held k (ValueType.Float FloatFormat.Double) h = z-float k (ValueType.Float FloatFormat.Double) 8 (refl, refl) (omega arith) (omega arith)
z-held k (ValueType.Float FloatFormat.LongDouble) h = z-reference k (ValueType.Float FloatFormat.LongDouble) 16
z-held k (ValueType.Struct s) h = z-struct k (ValueType.Struct s) s.size s.equivalent refl h.float

-- ---- every convention, at every cursor

pub step-held : (c : Convention) (v : Bool) (k : Cursor) (t : ValueType) → Typed c t
    → Held (with_ellipsis v (rules_of c)) (placement t (size_of c t) (span_of (with_ellipsis v (rules_of c)) k t (size_of c t)))
unfolding with_ellipsis
step-held Convention.Ppc64 v k t h = power-held 8 (omega arith) (omega arith) Edition.Earlier v Convention.Ppc64 k t h
step-held Convention.Z v k t h = z-held k t h
step-held Convention.Aix v k t h = power-held 4 (omega arith) (omega arith) Edition.Earlier v Convention.Aix k t h
step-held Convention.Ppc64b v k t h = power-held 8 (omega arith) (omega arith) Edition.Later v Convention.Ppc64b k t h
