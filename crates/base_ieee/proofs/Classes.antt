-- What is known of a datum of each class, and of a subnormal's fraction once it is normalised. Assumes nothing.
use mathlib.Core.Path.{◌≡◌, refl, sym, ap, ◌∙◌, subst}
use mathlib.Core.Logic.{⊎_elim}
use Prim.Native.Nat.{ℕ, suc, ◌+◌, ◌-◌, ◌*◌, ◌^◌, ◌≤◌, ◌<◌}
use native.Mathlib.Nat.{eq-zero-or-pos, eq-or-lt_of_le, le_trans, le_of_eq, mul_assoc, mul-le-mul_right, lt_of_not-le, not-le_of_lt, lt_of_lt_of_le}
use native.Mathlib.Omega.{arith}
use lib.Pow.{pow-add, pow_mono, shl_lt}
use lib.Count.{count_leading_zeros, leading_top, leading_length, leading_unique}
use borrow.Author.Tests.{ne_eqb}
use Rattle.base_ieee.specs.Format.{Format, FloatFields, single, hidden_bit}
use Rattle.base_ieee.specs.Widening.{Class, signed-zero, subnormal, normal, infinity-or-nan, class_of, shift}
use Rattle.base_ieee.proofs.Fields.{Fit}

-- What the fields of a single of the class are.
abbrev pub Is : Class → FloatFields → Type 0
Is signed-zero x = (x.exponent ≡ 0) × (x.fraction ≡ 0)
Is subnormal x = (x.exponent ≡ 0) × (0 < x.fraction)
Is normal x = (0 < x.exponent) × (x.exponent < 255)
Is infinity-or-nan x = x.exponent ≡ 255

-- A single with such fields is of the class and of no other, and every single is of one.
pub only-class : (C : Class) (x : FloatFields) → Is C x → class_of single x ≡ C
only-class signed-zero x h = simp (h.0, h.1)
only-class subnormal x h = simp (h.0, ne_eqb x.fraction 0 (λ q. omega arith))
only-class normal x h = simp (ne_eqb x.exponent 0 (λ q. omega arith), ne_eqb x.exponent 255 (λ q. omega arith))
only-class infinity-or-nan x h = simp h

pub of-its-class : (x : FloatFields) → Fit single x → Is (class_of single x) x
of-its-class x h =
    ⊎_elim
    (λ z. ⊎_elim (λ w. at signed-zero (z, w)) (λ p. at subnormal (z, p)) (eq-zero-or-pos x.fraction))
    (λ p. ⊎_elim (λ w. at infinity-or-nan w) (λ l. at normal (p, l)) (eq-or-lt_of_le {m = 255} (omega arith)))
    (eq-zero-or-pos x.exponent)
  where
    at : (C : Class) → Is C x → Is (class_of single x) x
    at C i = subst (λ (D : Class). Is D x) (sym (only-class C x i)) i

-- Two shifts to the left are one.
pub shifts : (a i j k : ℕ) → i + j ≡ k → a * 2 ^ i * 2 ^ j ≡ a * 2 ^ k
shifts a i j k e = mul_assoc a (2 ^ i) (2 ^ j) ∙ ap (λ (p : ℕ). a * p) (sym (pow-add 2 i j) ∙ ap (λ (n : ℕ). 2 ^ n) e)

-- A subnormal's fraction, shifted: the leading one stands at the hidden bit's place.
pub record Normalised (F : Format) (f : ℕ) : Type 0 where
  pub shifted : 0 < shift F f
  pub within : shift F f ≤ F.fraction_bits
  pub hidden : hidden_bit F ≤ f * 2 ^ shift F f
  pub below : f * 2 ^ shift F f < 2 ^ (F.fraction_bits + 1)

pub normalised : (F : Format) (f : ℕ) → 0 < f → f < hidden_bit F → Normalised F f
normalised F f pos small =
    let t : ℕ = F.fraction_bits in
    let n : ℕ = shift F f in
    let top = leading_top (t + 1) f pos (lt_of_lt_of_le small (pow_mono {i = t} (omega arith))) in
    let j : ℕ = top.0 in
    let e : n + suc j ≡ t + 1 = top.1 in
    let less : j < t = lt_of_not-le (λ (k : t ≤ j). not-le_of_lt small (le_trans (pow_mono k) top.2)) in
    let e₀ : j + n ≡ t = omega arith in
    let e₁ : suc j + n ≡ t + 1 = omega arith in record {
      shifted = omega arith;
      within = omega arith;
      hidden = subst (λ (k : ℕ). 2 ^ k ≤ f * 2 ^ n) e₀ (le_trans (le_of_eq (pow-add 2 j n)) (mul-le-mul_right (2 ^ n) top.2));
      below = subst (λ (k : ℕ). f * 2 ^ n < 2 ^ k) e₁ (shl_lt {a = f} (suc j) n top.3);
    }

-- With the hidden bit put back, a normalised fraction in a double is the fraction shifted.
pub restored : (f : ℕ) → 0 < f → f < 2 ^ 23 → 2 ^ 52 + (f * 2 ^ shift single f - 2 ^ 23) * 2 ^ 29 ≡ f * 2 ^ (shift single f + 29)
restored f pos small =
    let k = normalised single f pos small in
    let n : ℕ = shift single f in
    let whole : 2 ^ 52 + (f * 2 ^ n - 2 ^ 23) * 2 ^ 29 ≡ f * 2 ^ n * 2 ^ 29 = omega arith in
    whole ∙ shifts f n 29 (n + 29) refl

-- In a word that is j digits longer, j more zeros lead.
pub leading-longer : (k j a : ℕ) → a < 2 ^ k → count_leading_zeros (k + j) a ≡ count_leading_zeros k a + j
leading-longer k j a h =
    let s = leading_length k a h in
    let e : count_leading_zeros k a + s.0 ≡ k = s.1 in
    sym (leading_unique (k + j) a (count_leading_zeros k a + j) s.0 (omega arith) s.2 s.3)
