-- The laws of sizes, alignments and layouts: bounds first, then what closing a struct finds. Assumes nothing.
use Rattle.std.proofs.Common.{Some, None}
use mathlib.Core.Path.{◌≡◌, refl}
use Prim.Native.Nat.{◌+◌, ◌≤◌, ◌<◌}
use native.Mathlib.Omega.{arith}
use borrow.Author.Tests.{lt-ltb, le-ltb}
use Rattle.base_words.specs.Basics.{round_up}
use Rattle.base_words.proofs.Basics.{round-up-least, round-up-most}
use Rattle.base_conventions.specs.declared.Convention.{Convention}
use Rattle.base_conventions.specs.Numbers.{word_bytes}
use Rattle.base_conventions.proofs.Laws.{word-bounds}
use Rattle.sig_types.specs.declared.IntegerKind.{IntegerKind}
use Rattle.sig_types.specs.declared.FloatFormat.{FloatFormat}
use Rattle.sig_types.specs.declared.ValueType.{ValueType}
use Rattle.sig_types.specs.declared.Fields.{Fields}
use Rattle.sig_types.specs.Sizes.{integer_size, float_size, align_of, Sized}
use Rattle.sig_types.specs.Structs.{no_fields, with_field, shape_of, closed}

-- of a convention, an integer's size knows the word alone
pub integer-by-word : (c d : Convention) (k : IntegerKind) → word_bytes c ≡ word_bytes d → integer_size c k ≡ integer_size d k
integer-by-word c d IntegerKind.I8 e = refl
integer-by-word c d IntegerKind.U8 e = refl
integer-by-word c d IntegerKind.I16 e = refl
integer-by-word c d IntegerKind.U16 e = refl
integer-by-word c d IntegerKind.I32 e = refl
integer-by-word c d IntegerKind.U32 e = refl
integer-by-word c d IntegerKind.I64 e = refl
integer-by-word c d IntegerKind.U64 e = refl
integer-by-word c d IntegerKind.Pointer e = e

-- a word that hasn't 4 bytes has 8
pub wide_word : (c : Convention) → (word_bytes c ≡ word_bytes Convention.Aix → ⊥) → word_bytes c ≡ word_bytes Convention.Ppc64
wide_word Convention.Ppc64 h = refl
wide_word Convention.Z h = refl
wide_word Convention.Aix h = absurd (h refl)
wide_word Convention.Ppc64b h = refl

-- a type that is no struct is small

pub integer-most : (c : Convention) (k : IntegerKind) → (0 < integer_size c k) × (integer_size c k ≤ 8)
integer-most c IntegerKind.I8 = omega arith
integer-most c IntegerKind.U8 = omega arith
integer-most c IntegerKind.I16 = omega arith
integer-most c IntegerKind.U16 = omega arith
integer-most c IntegerKind.I32 = omega arith
integer-most c IntegerKind.U32 = omega arith
integer-most c IntegerKind.I64 = omega arith
integer-most c IntegerKind.U64 = omega arith
integer-most c IntegerKind.Pointer = omega (arith, word-bounds c)

float-most : (f : FloatFormat) → (0 < float_size f) × (float_size f ≤ 16)
float-most FloatFormat.Single = omega arith
float-most FloatFormat.Double = omega arith
float-most FloatFormat.LongDouble = omega arith

pub integer-sized : (c : Convention) (k : IntegerKind) → Sized c (ValueType.Integer k)
integer-sized c k = let m = integer-most c k in record { some = m.0; small = omega arith; aligned = m.0; narrow = omega arith }

pub float-sized : (c : Convention) (f : FloatFormat) → Sized c (ValueType.Float f)
float-sized c f = let m = float-most f in record { some = m.0; small = omega arith; aligned = m.0; narrow = m.1 }

-- the fields so far

-- an alignment of 1 to 16
pub record Aligned (l : Fields) : Type 0 where
  pub least : 0 < l.align
  pub most : l.align ≤ 16

pub none-aligned : Aligned no_fields
none-aligned = record { least = omega arith; most = omega arith }

module _ (c : Convention) (l : Fields) (t : ValueType) (sized : Sized c t) where
  pub more-aligned : Aligned l → Aligned (with_field c l t)
  unfolding with_field
  more-aligned a = record { least = omega arith; most = omega arith }

  -- a field takes its size and at most 15 bytes before it
  pub more-end : (with_field c l t).end < l.end + 272
  unfolding with_field
  more-end = omega (arith, round-up-most l.end (align_of c t) sized.aligned)

  pub more-some : 0 < (with_field c l t).end
  unfolding with_field
  more-some = omega arith

-- closing

module _ (l : Fields) where
  pub closed-large : 256 < round_up l.end l.align → closed l ≡ None
  unfolding closed shape_of
  closed-large h = simp (lt-ltb 256 (round_up l.end l.align) h)

  pub closed-small : round_up l.end l.align ≤ 256 → closed l ≡ Some (shape_of l)
  unfolding closed shape_of
  closed-small h = simp (le-ltb 256 (round_up l.end l.align) h)

  pub shape-sized : (c : Convention) → Aligned l → 0 < l.end → (shape_of l).size ≤ 256 → Sized c (ValueType.Struct (shape_of l))
  unfolding shape_of
  shape-sized c a h small = record { some = omega (arith, round-up-least l.end l.align a.least); small = small; aligned = a.least; narrow = a.most }
