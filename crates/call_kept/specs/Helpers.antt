-- For proofs and helpers alone: no claim cites this file.
-- The type and the span of an argument as words, and the arguments that words hold: no number here is seen from outside. Assumes nothing.
use Rattle.sig_types.specs.Codes.{integer_number, float_number}
use Rattle.std.specs.Prelude.{ℕ, zero, suc, ◌+◌, ◌-◌, ◌*◌, ◌/◌, ◌%◌, ◌≤◌, ◌<◌, Bool, true, false, List, [], ◌∷◌, eqb, ltb, length, get_or}
use Rattle.base_words.specs.Basics.{pick, All, flag}
use Rattle.base_conventions.specs.declared.Convention.{Convention}
use Rattle.sig_types.specs.declared.IntegerKind.{IntegerKind}
use Rattle.sig_types.specs.declared.FloatFormat.{FloatFormat}
use Rattle.sig_types.specs.declared.Equivalent.{Equivalent}
use Rattle.sig_types.specs.declared.Shape.{Shape}
use Rattle.sig_types.specs.declared.ValueType.{ValueType}
use Rattle.sig_types.specs.Sizes.{size_of, max_size}
use Rattle.plan_places.specs.declared.RegisterRange.{RegisterRange}
use Rattle.plan_places.specs.declared.ByteRange.{ByteRange}
use Rattle.plan_places.specs.declared.Span.{Span}
use Rattle.call_slots.specs.Placements.{Placement, placement}

-- ---- a type in a word: the numbers of an integer's kind and of a float's format are the signature's

unfoldable pub kind_from : ℕ → IntegerKind
kind_from x =
    pick (eqb x 0) IntegerKind.I8
    (pick (eqb x 1) IntegerKind.U8
    (pick (eqb x 2) IntegerKind.I16
    (pick (eqb x 3) IntegerKind.U16
    (pick (eqb x 4) IntegerKind.I32
    (pick (eqb x 5) IntegerKind.U32
    (pick (eqb x 6) IntegerKind.I64
    (pick (eqb x 7) IntegerKind.U64 IntegerKind.Pointer)))))))

unfoldable pub format_from : ℕ → FloatFormat
format_from x = pick (eqb x 0) FloatFormat.Single (pick (eqb x 1) FloatFormat.Double FloatFormat.LongDouble)

abbrev pub equivalent_code : Equivalent → ℕ
equivalent_code Equivalent.Nothing = 0
equivalent_code Equivalent.Single = 1
equivalent_code Equivalent.Double = 2

unfoldable pub equivalent_from : ℕ → Equivalent
equivalent_from x = pick (eqb x 0) Equivalent.Nothing (pick (eqb x 1) Equivalent.Single Equivalent.Double)

-- what has a code: every type that is read
abbrev pub Codable : ValueType → Type 0
Codable (ValueType.Integer k) = Unit {0}
Codable (ValueType.Float f) = Unit {0}
Codable (ValueType.Struct s) = (0 < s.size) × (s.size ≤ max_size) × (s.align ≤ 16)

abbrev pub type_code : ValueType → ℕ
type_code (ValueType.Integer k) = integer_number k
type_code (ValueType.Float f) = 16 + float_number f
type_code (ValueType.Struct s) = 128 * s.size + (4 * s.align + equivalent_code s.equivalent)

unfoldable pub type_from : ℕ → ValueType
type_from x =
    pick (ltb x 16) (ValueType.Integer (kind_from x))
    (pick (ltb x 32) (ValueType.Float (format_from (x - 16)))
    (ValueType.Struct (record { size = x / 128; align = x / 4 % 32; equivalent = equivalent_from (x % 4) })))

-- ---- a row

abbrev pub row_length : ℕ
row_length = 10

abbrev pub range_code : RegisterRange → ℕ
range_code r = 256 * r.first + r.count

unfoldable pub range_from : ℕ → RegisterRange
range_from x = record { first = x / 256; count = x % 256 }

abbrev pub flag_from : ℕ → Bool
flag_from x = pick (eqb x 0) false true

abbrev pub row_of : ValueType → Span → List ℕ
row_of t s =
    type_code t
    ∷ range_code s.general
    ∷ range_code s.floating
    ∷ s.home.start
    ∷ s.home.length
    ∷ s.memory.start
    ∷ s.memory.length
    ∷ s.copy.start
    ∷ s.copy.length
    ∷ flag s.indirect
    ∷ []

unfoldable pub span_from : List ℕ → ℕ → Span
span_from l at = record {
  general = range_from (get_or l (at + 1) 0);
  floating = range_from (get_or l (at + 2) 0);
  home = record { start = get_or l (at + 3) 0; length = get_or l (at + 4) 0 };
  memory = record { start = get_or l (at + 5) 0; length = get_or l (at + 6) 0 };
  copy = record { start = get_or l (at + 7) 0; length = get_or l (at + 8) 0 };
  indirect = flag_from (get_or l (at + 9) 0);
}

-- ---- the arguments that are kept

-- argument i
unfoldable pub kept_at : Convention → List ℕ → ℕ → Placement
kept_at c l i = placement (type_from (get_or l (row_length * i) 0)) (size_of c (type_from (get_or l (row_length * i) 0))) (span_from l (row_length * i))

-- n of them, from argument i on
unfoldable pub kept_from : Convention → List ℕ → ℕ → ℕ → List Placement
kept_from c l i zero = []
kept_from c l i (suc n) = kept_at c l i ∷ kept_from c l (suc i) n

-- all n
abbrev pub kept_all : Convention → List ℕ → ℕ → List Placement
kept_all c l n = kept_from c l 0 n

-- what the loops over them ask: n rows are there, and each argument has the fact P
pub record KeptEach (P : Placement → Type 0) (c : Convention) (l : List ℕ) (n : ℕ) : Type 0 where
  pub room : row_length * n ≤ length l
  pub each : All P (kept_all c l n)
