-- Widening keeps a number's value, and the fraction of an infinity or a NaN. Assumes nothing.
use mathlib.Core.Path.{◌≡◌, refl, sym, ap, ◌∙◌}
use Prim.Native.Nat.{ℕ, ◌+◌, ◌-◌, ◌*◌, ◌^◌, ◌<◌}
use native.Mathlib.Omega.{arith}
use borrow.Author.Tests.{ne_eqb}
use Rattle.base_ieee.specs.Format.{Format, FloatFields, single, double, hidden_bit}
use Rattle.base_ieee.specs.Widening.{Class, signed-zero, subnormal, normal, infinity-or-nan, class_of, shift, widen_as, widen_fields, value, finer, WideningKeeps}
use Rattle.base_ieee.proofs.Fields.{Fit}
use Rattle.base_ieee.proofs.Classes.{Is, of-its-class, normalised, shifts, restored}

-- The two cases of a value.
value-subnormal : (F : Format) (x : FloatFields) → x.exponent ≡ 0 → value F x ≡ x.fraction
unfolding value
value-subnormal F x h = simp h

value-normal : (F : Format) (x : FloatFields) → 0 < x.exponent → value F x ≡ (hidden_bit F + x.fraction) * 2 ^ (x.exponent - 1)
unfolding value
value-normal F x h = simp (ne_eqb x.exponent 0 (λ q. omega arith))

pub widen_keeps : (x : FloatFields) → Fit single x → WideningKeeps single double x (widen_fields single double x)
unfolding widen_fields
widen_keeps x h = go (class_of single x) (of-its-class x h)
  where
    go : (C : Class) → Is C x → WideningKeeps single double x (widen_as single double C x)
    go signed-zero i = record {
      sign_kept = refl;
      value-kept = λ _. (
        omega arith,
        value-subnormal double (widen_as single double signed-zero x) refl
            ∙ ap (λ (m : ℕ). m * finer single double) (sym (value-subnormal single x i.0 ∙ i.1)),
      );
      fraction-kept = λ q. absurd (omega arith);
    }
    go subnormal i =
        let f : ℕ = x.fraction in
        let n : ℕ = shift single f in
        let k = normalised single f i.1 h.fraction-fits in record {
          sign_kept = refl;
          value-kept = λ _. (
            omega arith,
            value-normal double (widen_as single double subnormal x) (omega arith)
                ∙ ap (λ (m : ℕ). m * 2 ^ (897 - n - 1)) (restored f i.1 h.fraction-fits)
                ∙ shifts f (n + 29) (897 - n - 1) 925 (omega arith)
                ∙ ap (λ (m : ℕ). m * finer single double) (sym (value-subnormal single x i.0)),
          );
          fraction-kept = λ q. absurd (omega arith);
        }
    go normal i =
        let e : ℕ = x.exponent in
        let f : ℕ = x.fraction in
        let whole : 2 ^ 52 + f * 2 ^ 29 ≡ (2 ^ 23 + f) * 2 ^ 29 = omega arith in record {
          sign_kept = refl;
          value-kept = λ _. (
            omega arith,
            value-normal double (widen_as single double normal x) (omega arith)
                ∙ ap (λ (m : ℕ). m * 2 ^ (e + 896 - 1)) whole
                ∙ shifts (2 ^ 23 + f) 29 (e + 896 - 1) (e + 924) (omega arith)
                ∙ sym (shifts (2 ^ 23 + f) (e - 1) 925 (e + 924) (omega arith))
                ∙ ap (λ (m : ℕ). m * finer single double) (sym (value-normal single x i.0)),
          );
          fraction-kept = λ q. absurd (omega arith);
        }
    go infinity-or-nan i = record { sign_kept = refl; value-kept = λ l. absurd (omega arith); fraction-kept = λ _. (refl, refl) }
