-- Widening, and narrowing's candidate, on the fields of a datum: the cases of each, that the answers fit, that the sign
-- takes no part, and that the candidate undoes widening. Assumes nothing.
use mathlib.Core.Path.{◌≡◌, refl, sym, ap, ap₂, ◌∙◌}
use mathlib.Core.Bool.{Bool, true, false}
use Prim.Native.Nat.{ℕ, ◌+◌, ◌-◌, ◌*◌, ◌/◌, ◌%◌, ◌^◌, ◌≤◌, ◌<◌}
use native.Mathlib.Nat.{lt_of_not-le, div-eq_of_lt}
use native.Mathlib.Decide.{dec_le}
use native.Mathlib.Omega.{arith}
use lib.Dec.{leb}
use lib.Pow.{pow_mono, shl-shr, shr_lt}
use borrow.Author.Tests.{le-leb, lt-leb}
use Rattle.base_ieee.specs.Format.{Format, FloatFields, single, double, positive, join, split}
use Rattle.base_ieee.specs.Widening.{Class, signed-zero, subnormal, normal, infinity-or-nan, class_of, rebias, shift, widen_as, widen_fields, widen}
use Rattle.base_ieee.specs.Helpers.{magnitude, candidate_magnitude}
use Rattle.base_ieee.specs.Narrowing.{candidate_as, candidate_fields, candidate}
use Rattle.base_ieee.proofs.Fields.{Fit, fields-equal}
use Rattle.base_ieee.proofs.Classes.{Is, of-its-class, only-class, normalised, restored}

-- ---- the cases

pub magnitude-as : (C : Class) (e f : ℕ) → Is C (positive e f) → magnitude e f ≡ join double (widen_as single double C (positive e f))
unfolding magnitude widen_fields
magnitude-as C e f i = ap (λ (D : Class). join double (widen_as single double D (positive e f))) (only-class C (positive e f) i)

pub candidate-low : (x : FloatFields) → x.exponent ≤ 896
    → candidate_fields single double x ≡ candidate_as single double true x
unfolding candidate_fields
candidate-low x h = simp (le-leb x.exponent 896 h)

pub candidate-high : (x : FloatFields) → 896 < x.exponent
    → candidate_fields single double x ≡ candidate_as single double false x
unfolding candidate_fields
candidate-high x h = simp (lt-leb x.exponent 896 h)

-- Below the exponent of the least subnormal, widened, nothing is left of the fraction.
pub candidate-none : (e f : ℕ) → e < 874 → f < 2 ^ 52 → (2 ^ 52 + f) / 2 ^ (29 + (897 - e)) ≡ 0
candidate-none e f h k =
    let wide : 2 ^ 53 ≤ 2 ^ (29 + (897 - e)) = pow_mono {i = 53} (omega arith) in div-eq_of_lt (omega arith)

-- ---- the answers fit

pub widen-fits : (x : FloatFields) → Fit single x → Fit double (widen_fields single double x)
unfolding widen_fields
widen-fits x h = go (class_of single x) (of-its-class x h)
  where
    go : (C : Class) → Is C x → Fit double (widen_as single double C x)
    go signed-zero i = omega arith
    go subnormal i = let n = normalised single x.fraction i.1 h.fraction-fits in omega arith
    go normal i = omega arith
    go infinity-or-nan i = omega arith

pub candidate-fits : (x : FloatFields) → Fit double x → Fit single (candidate_fields single double x)
candidate-fits x h =
    elim (dec_le x.exponent 896) [
      | yes k ↦
          let j : ℕ = 29 + (897 - x.exponent) in
          let wide : 2 ^ 53 ≤ 2 ^ (23 + j) = pow_mono {i = 53} (omega arith) in
          rw (candidate-low x k) (record {
            sign_fits = h.sign_fits;
            exponent-fits = omega arith;
            fraction-fits = shr_lt 23 j (omega arith);
          })
      | no n ↦
          let k : 896 < x.exponent = lt_of_not-le n in
          rw (candidate-high x k) (omega arith)
    ]

-- ---- the sign stands above the rest

pub widen-keeps-sign : (S T : Format) (x : FloatFields) → (widen_fields S T x).sign ≡ x.sign
unfolding widen_fields
widen-keeps-sign S T x = go (class_of S x)
  where
    go : (C : Class) → (widen_as S T C x).sign ≡ x.sign
    go signed-zero = refl
    go subnormal = refl
    go normal = refl
    go infinity-or-nan = refl

pub candidate-keeps-sign : (S T : Format) (x : FloatFields) → (candidate_fields S T x).sign ≡ x.sign
unfolding candidate_fields
candidate-keeps-sign S T x = go (leb x.exponent (rebias S T))
  where
    go : (b : Bool) → (candidate_as S T b x).sign ≡ x.sign
    go true = refl
    go false = refl

pub magnitude-below : (x : ℕ) → magnitude (x / 2 ^ 23 % 2 ^ 8) (x % 2 ^ 23) < 2 ^ 63
unfolding magnitude join
magnitude-below x =
    let y : FloatFields = positive (x / 2 ^ 23 % 2 ^ 8) (x % 2 ^ 23) in
    let w = widen-fits y (omega arith) in
    omega (arith, widen-keeps-sign single double y)

pub candidate-magnitude-below : (d : ℕ) → candidate_magnitude (d / 2 ^ 52 % 2 ^ 11) (d % 2 ^ 52) < 2 ^ 31
unfolding candidate_magnitude join
candidate-magnitude-below d =
    let y : FloatFields = positive (d / 2 ^ 52 % 2 ^ 11) (d % 2 ^ 52) in
    let w = candidate-fits y (omega arith) in
    omega (arith, candidate-keeps-sign single double y)

pub widen-sign : (x : ℕ) → x < 2 ^ 32 → widen x ≡ x / 2 ^ 31 * 2 ^ 63 + magnitude (x / 2 ^ 23 % 2 ^ 8) (x % 2 ^ 23)
unfolding widen widen_fields magnitude join split
widen-sign x h = go (class_of single (split single x))
  where
    go : (C : Class) → join double (widen_as single double C (split single x))
        ≡ x / 2 ^ 31 * 2 ^ 63 + join double (widen_as single double C (positive (x / 2 ^ 23 % 2 ^ 8) (x % 2 ^ 23)))
    go signed-zero = omega arith
    go subnormal = omega arith
    go normal = omega arith
    go infinity-or-nan = omega arith

pub candidate-sign : (d : ℕ) → d < 2 ^ 64 → candidate d ≡ d / 2 ^ 63 * 2 ^ 31 + candidate_magnitude (d / 2 ^ 52 % 2 ^ 11) (d % 2 ^ 52)
unfolding candidate candidate_fields candidate_magnitude join split
candidate-sign d h = go (leb (d / 2 ^ 52 % 2 ^ 11) 896)
  where
    go : (b : Bool) → join single (candidate_as single double b (split double d))
        ≡ d / 2 ^ 63 * 2 ^ 31 + join single (candidate_as single double b (positive (d / 2 ^ 52 % 2 ^ 11) (d % 2 ^ 52)))
    go true = omega arith
    go false = omega arith

-- ---- the candidate undoes widening

pub candidate-widen : (x : FloatFields) → Fit single x → candidate_fields single double (widen_fields single double x) ≡ x
unfolding widen_fields
candidate-widen x h = go (class_of single x) (of-its-class x h)
  where
    go : (C : Class) → Is C x → candidate_fields single double (widen_as single double C x) ≡ x
    go signed-zero i = candidate-low _ (omega arith) ∙ fields-equal refl (sym i.0) (sym i.1)
    go subnormal i =
        let n : ℕ = shift single x.fraction in
        let k = normalised single x.fraction i.1 h.fraction-fits in
        let places : 29 + (897 - (897 - n)) ≡ n + 29 = omega arith in
        candidate-low _ (omega arith)
        ∙ fields-equal refl (sym i.0) (ap₂ (λ (m j : ℕ). m / 2 ^ j) (restored x.fraction i.1 h.fraction-fits) places ∙ shl-shr x.fraction (n + 29))
    go normal i = candidate-high _ (omega arith) ∙ fields-equal refl (omega arith) (omega arith)
    go infinity-or-nan i = candidate-high _ (omega arith) ∙ fields-equal refl (omega arith) (omega arith)
