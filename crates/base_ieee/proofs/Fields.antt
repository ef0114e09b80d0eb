-- The laws of joining and splitting a datum's fields, over any format. Assumes nothing.
use mathlib.Core.Path.{◌≡◌, sym, ap, ap₂, ◌∙◌}
use Prim.Native.Nat.{ℕ, ◌+◌, ◌*◌, ◌/◌, ◌%◌, ◌^◌, ◌<◌}
use native.Mathlib.Nat.{mod-lt, mod-eq_of_lt, le_of_eq, lt_of_lt_of_le}
use lib.Arith.{digits_lt}
use lib.Pow.{pow_pos, pow-add, shr_lt, shr-shr, high, low, recompose, split as split_at}
use Rattle.base_ieee.specs.Format.{Format, FloatFields, width, join, split}

-- Each field is within its width.
pub record Fit (F : Format) (x : FloatFields) : Type 0 where
  pub sign_fits : x.sign < 2
  pub exponent-fits : x.exponent < 2 ^ F.exponent_bits
  pub fraction-fits : x.fraction < 2 ^ F.fraction_bits

pub split-fits : (F : Format) (b : ℕ) → Fit F (split F b)
unfolding split
split-fits F b = record {
  sign_fits = mod-lt _ (pow_pos 1);
  exponent-fits = mod-lt _ (pow_pos F.exponent_bits);
  fraction-fits = mod-lt _ (pow_pos F.fraction_bits);
}

pub join-below : (F : Format) (x : FloatFields) → Fit F x → join F x < 2 ^ width F
unfolding join
join-below F x h =
    lt_of_lt_of_le (digits_lt (digits_lt h.sign_fits h.exponent-fits) h.fraction-fits)
    (le_of_eq (sym (pow-add 2 (1 + F.exponent_bits) F.fraction_bits ∙ ap (λ (k : ℕ). k * 2 ^ F.fraction_bits) (pow-add 2 1 F.exponent_bits))))

pub fields-equal : {x y : FloatFields} → x.sign ≡ y.sign → x.exponent ≡ y.exponent → x.fraction ≡ y.fraction → x ≡ y
fields-equal {x} {y} p q r =
    ap (λ (s : ℕ). record { sign = s; exponent = x.exponent; fraction = x.fraction }) p
    ∙ ap₂ (λ (e f : ℕ). record { sign = y.sign; exponent = e; fraction = f }) q r

pub split-join : (F : Format) (x : FloatFields) → Fit F x → split F (join F x) ≡ x
unfolding join split
split-join F x h =
    let w : ℕ = F.exponent_bits in
    let t : ℕ = F.fraction_bits in
    let above : ℕ = x.sign * 2 ^ w + x.exponent in
    let cut : join F x / 2 ^ t ≡ above = high above t h.fraction-fits in
    fields-equal
    (ap (λ (n : ℕ). n % 2) (sym (shr-shr (join F x) t w) ∙ ap (λ (n : ℕ). n / 2 ^ w) cut ∙ high x.sign w h.exponent-fits) ∙ mod-eq_of_lt h.sign_fits)
    (ap (λ (n : ℕ). n % 2 ^ w) cut ∙ low x.sign w h.exponent-fits)
    (low above t h.fraction-fits)

pub join-split : (F : Format) (b : ℕ) → b < 2 ^ width F → join F (split F b) ≡ b
unfolding join split
join-split F b h =
    let w : ℕ = F.exponent_bits in
    let t : ℕ = F.fraction_bits in
    ap (λ (n : ℕ). (n % 2 * 2 ^ w + b / 2 ^ t % 2 ^ w) * 2 ^ t + b % 2 ^ t) (sym (shr-shr b t w))
    ∙ ap (λ (n : ℕ). n * 2 ^ t + b % 2 ^ t) (recompose 1 w (shr_lt (1 + w) t h))
    ∙ split_at b t
