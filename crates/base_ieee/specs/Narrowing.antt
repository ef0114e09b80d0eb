-- Narrowing: the single whose widening 64 bits are, or none. Document 01's refusal 14 is "a single's PPC64 FPR that is no
-- widened single". Its worked values are in the crate both_vectors' table.
-- `NarrowExactly` says what narrowing is without the formula of its candidate; proofs/Theorems.antt has it of all 64 bits.
-- Assumes nothing.
use Rattle.std.specs.Prelude.{ℕ, ◌+◌, ◌-◌, ◌/◌, ◌^◌, ◌<◌, min, ◌≡◌, ◌↔◌, Bool, true, false, Option, Some, None, eqb, leb}
use Rattle.base_words.specs.Basics.{pick}
use Rattle.base_ieee.specs.Format.{Format, FloatFields, single, double, width, all_ones, hidden_bit, join, split}
use Rattle.base_ieee.specs.Widening.{rebias, widen}

-- The fields of the only datum of S that can widen to a datum of T with the fields x. Where the exponent field is one
-- that a normalised subnormal has, or a smaller one (true), the hidden bit is put back and the shift undone. Where it is
-- larger (false), the new bias is taken off and the fraction cut; a field of ones stays one.
abbrev pub candidate_as : Format → Format → Bool → FloatFields → FloatFields
candidate_as S T true x = record {
  sign = x.sign;
  exponent = 0;
  fraction = (hidden_bit T + x.fraction) / 2 ^ (T.fraction_bits - S.fraction_bits + (1 + rebias S T - x.exponent));
}
candidate_as S T false x = record {
  sign = x.sign;
  exponent = min (x.exponent - rebias S T) (all_ones S);
  fraction = x.fraction / 2 ^ (T.fraction_bits - S.fraction_bits);
}

-- 896 is the largest exponent field that a normalised subnormal single has in a double.
unfoldable pub candidate_fields : Format → Format → FloatFields → FloatFields
candidate_fields S T x = candidate_as S T (leb x.exponent (rebias S T)) x

-- The only single that can widen to the 64 bits d.
unfoldable pub candidate : ℕ → ℕ
candidate d = join single (candidate_fields single double (split double d))

-- The single that widens to the 64 bits d, if there is one.
unfoldable pub narrow : ℕ → Option ℕ
narrow d = pick (eqb (widen (candidate d)) d) (Some (candidate d)) None

-- d is the widening of the single x.
abbrev pub WidensTo : ℕ → ℕ → Type 0
WidensTo x d = (x < 2 ^ width single) × (widen x ≡ d)

-- Narrowing accepts exactly the widened singles: it answers a single exactly where this single widens to d, and
-- `None` (refusal 14) exactly where no single does.
pub record NarrowExactly (d : ℕ) : Type 0 where
  pub accepts : (x : ℕ) → (narrow d ≡ Some x) ↔ WidensTo x d
  pub refuses : (narrow d ≡ None) ↔ ((x : ℕ) → WidensTo x d → ⊥)
