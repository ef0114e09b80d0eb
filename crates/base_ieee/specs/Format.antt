-- The binary interchange formats of IEEE 754 (2008, 3.4): a datum is a sign bit, a biased exponent field and a fraction
-- field, from the most significant bit on. All is stated once over the widths of the two fields; `single` and `double`
-- are two values of `Format`. Assumes nothing.
use Rattle.std.specs.Prelude.{ℕ, ◌+◌, ◌-◌, ◌*◌, ◌/◌, ◌%◌, ◌^◌}

-- A format by the widths in bits of its exponent field and its fraction field (IEEE 754: w and t). The sign is one bit.
pub record Format : Type 0 where
  pub exponent_bits : ℕ
  pub fraction_bits : ℕ

-- IEEE 754's binary32.
abbrev pub single : Format
single = record { exponent_bits = 8; fraction_bits = 23 }

-- IEEE 754's binary64.
abbrev pub double : Format
double = record { exponent_bits = 11; fraction_bits = 52 }

-- How many bits a datum has: 32 and 64.
abbrev pub width : Format → ℕ
width F = 1 + F.exponent_bits + F.fraction_bits

-- What is added to an exponent to give its field: 127 and 1023.
abbrev pub bias : Format → ℕ
bias F = 2 ^ (F.exponent_bits - 1) - 1

-- An exponent field of ones, which infinities and NaNs have: 255 and 2047.
abbrev pub all_ones : Format → ℕ
all_ones F = 2 ^ F.exponent_bits - 1

-- The bit that a normal number's significand has above its fraction and that no field holds: 2^23 and 2^52.
abbrev pub hidden_bit : Format → ℕ
hidden_bit F = 2 ^ F.fraction_bits

-- A datum by its fields, each an unsigned integer.
pub record FloatFields : Type 0 where
  pub sign : ℕ
  pub exponent : ℕ
  pub fraction : ℕ

-- A datum without its sign: the one with the sign 0.
abbrev pub positive : ℕ → ℕ → FloatFields
positive e f = record { sign = 0; exponent = e; fraction = f }

-- The bits of the datum with these fields, as an unsigned integer.
unfoldable pub join : Format → FloatFields → ℕ
join F x = (x.sign * 2 ^ F.exponent_bits + x.exponent) * 2 ^ F.fraction_bits + x.fraction

-- The fields of the datum with these bits.
unfoldable pub split : Format → ℕ → FloatFields
split F b = record {
  sign = b / 2 ^ (F.fraction_bits + F.exponent_bits) % 2;
  exponent = b / 2 ^ F.fraction_bits % 2 ^ F.exponent_bits;
  fraction = b % 2 ^ F.fraction_bits;
}
