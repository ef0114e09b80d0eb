-- Widening a datum of one format to a wider format. Document 01, "What stands in a slot": "A PPC64 single is widened bit
-- for bit in an FPR, never quieted". A zero, a subnormal and a normal number keep their value, an infinity stays one, and
-- a NaN keeps its sign and every bit of its fraction: a signalling NaN stays signalling.
-- Document 01's worked values are in the crate both_vectors' table.
-- `WidenExactly` says what widening keeps without the formulas of `widen_as`; proofs/Theorems.antt has it of every single.
-- Assumes nothing.
use Rattle.std.specs.Prelude.{◌≡◌, ℕ, ◌+◌, ◌-◌, ◌*◌, ◌^◌, ◌<◌, eqb}
use Rattle.std.specs.Int.Count.{count_leading_zeros}
use Rattle.base_words.specs.Basics.{pick}
use Rattle.base_ieee.specs.Format.{Format, FloatFields, single, double, bias, all_ones, hidden_bit, join, split}

-- The classes of data that widening tells apart.
pub data Class : Type 0 where
  signed-zero : Class
  subnormal : Class
  normal : Class
  infinity-or-nan : Class

-- IEEE 754-2008, 3.4, a to e: an exponent field of zeros is a zero's or a subnormal's, one of ones an infinity's or a
-- NaN's.
abbrev pub class_of : Format → FloatFields → Class
class_of F x =
    pick (eqb x.exponent 0) (pick (eqb x.fraction 0) signed-zero subnormal)
    (pick (eqb x.exponent (all_ones F)) infinity-or-nan normal)

-- How much larger the bias of the wider format T is: 896 from single to double.
abbrev pub rebias : Format → Format → ℕ
rebias S T = bias T - bias S

-- A fraction of S at the top of the longer fraction field of T, with zeros below: 29 zeros from single to double.
abbrev pub extend : Format → Format → ℕ → ℕ
extend S T f = f * 2 ^ (T.fraction_bits - S.fraction_bits)

-- How far a subnormal's fraction f is shifted to the left, so that its leading one stands at the place of the hidden bit:
-- the zeros that lead in a significand, which has one bit more than the fraction.
abbrev pub shift : Format → ℕ → ℕ
shift F f = count_leading_zeros (F.fraction_bits + 1) f

-- A datum of each class, widened from S to T. The sign is kept. A subnormal is normalised: its leading one becomes the
-- hidden bit, and its exponent, that of the least normal numbers (field 1), falls by one for each place of the shift. A
-- normal number's exponent gets the new bias. An infinity or a NaN keeps its exponent field of ones.
abbrev pub widen_as : Format → Format → Class → FloatFields → FloatFields
widen_as S T signed-zero x = record { sign = x.sign; exponent = 0; fraction = 0 }
widen_as S T subnormal x = record {
  sign = x.sign;
  exponent = 1 + rebias S T - shift S x.fraction;
  fraction = extend S T (x.fraction * 2 ^ shift S x.fraction - hidden_bit S);
}
widen_as S T normal x = record { sign = x.sign; exponent = x.exponent + rebias S T; fraction = extend S T x.fraction }
widen_as S T infinity-or-nan x = record { sign = x.sign; exponent = all_ones T; fraction = extend S T x.fraction }

-- The fields of a datum, widened from S to T.
unfoldable pub widen_fields : Format → Format → FloatFields → FloatFields
widen_fields S T x = widen_as S T (class_of S x) x

-- A single's 32 bits as the 64 bits of a double.
unfoldable pub widen : ℕ → ℕ
widen x = join double (widen_fields single double (split single x))

-- The value of a finite datum without its sign, counted in the format's least subnormal, 2^(1 - bias - fraction_bits):
-- IEEE 754-2008, 3.4, c and d. A normal number's significand has the hidden bit, and its unit doubles with each exponent.
unfoldable pub value : Format → FloatFields → ℕ
value F x = pick (eqb x.exponent 0) x.fraction ((hidden_bit F + x.fraction) * 2 ^ (x.exponent - 1))

-- How many of the least subnormals of the wider format T make one of S: 2^925 from single to double.
abbrev pub finer : Format → Format → ℕ
finer S T = 2 ^ (bias T + T.fraction_bits - (bias S + S.fraction_bits))

-- What the widening y of a datum x keeps: the sign; of a number the value; of an infinity or a NaN that it is one, and
-- every bit of the fraction.
pub record WideningKeeps (S T : Format) (x y : FloatFields) : Type 0 where
  pub sign_kept : y.sign ≡ x.sign
  pub value-kept : x.exponent < all_ones S → (y.exponent < all_ones T) × (value T y ≡ value S x * finer S T)
  pub fraction-kept : x.exponent ≡ all_ones S → (y.exponent ≡ all_ones T) × (y.fraction ≡ extend S T x.fraction)

-- Widening the single x keeps all this.
abbrev pub WidenExactly : ℕ → Type 0
WidenExactly x = WideningKeeps single double (split single x) (split double (widen x))
