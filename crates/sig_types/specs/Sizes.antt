-- The size and the alignment of a type, and the float that it is equivalent to.
-- Document 01, "A signature's bytes". Assumes nothing.
use Rattle.std.specs.Prelude.{ℕ, ◌≤◌, ◌<◌, Bool, true, false}
use Rattle.base_conventions.specs.declared.Convention.{Convention}
use Rattle.base_conventions.specs.Numbers.{word_bytes}
use Rattle.sig_types.specs.declared.IntegerKind.{IntegerKind}
use Rattle.sig_types.specs.declared.FloatFormat.{FloatFormat}
use Rattle.sig_types.specs.declared.Equivalent.{Equivalent}
use Rattle.sig_types.specs.declared.ValueType.{ValueType}

-- "whole number .. i8, u8, i16, u16, i32, u32, i64, u64, pointer": in bytes; a pointer is a word
abbrev pub integer_size : Convention → IntegerKind → ℕ
integer_size c IntegerKind.I8 = 1
integer_size c IntegerKind.U8 = 1
integer_size c IntegerKind.I16 = 2
integer_size c IntegerKind.U16 = 2
integer_size c IntegerKind.I32 = 4
integer_size c IntegerKind.U32 = 4
integer_size c IntegerKind.I64 = 8
integer_size c IntegerKind.U64 = 8
integer_size c IntegerKind.Pointer = word_bytes c

-- "float .. single, double, long double (16 bytes)"
abbrev pub float_size : FloatFormat → ℕ
float_size FloatFormat.Single = 4
float_size FloatFormat.Double = 8
float_size FloatFormat.LongDouble = 16

-- the floats that a convention has not, inside a struct or not; No. 1: on AIX "A long double, or a double inside a struct"
abbrev pub lacks_float : Convention → Bool → FloatFormat → Bool
lacks_float Convention.Ppc64 inside f = false
lacks_float Convention.Z inside f = false
lacks_float Convention.Ppc64b inside f = false
lacks_float Convention.Aix inside FloatFormat.Single = false
lacks_float Convention.Aix inside FloatFormat.Double = inside
lacks_float Convention.Aix inside FloatFormat.LongDouble = true

abbrev pub size_of : Convention → ValueType → ℕ
size_of c (ValueType.Integer k) = integer_size c k
size_of c (ValueType.Float f) = float_size f
size_of c (ValueType.Struct s) = s.size

-- "Field alignment is the field's size, for a struct its largest field alignment"
abbrev pub align_of : Convention → ValueType → ℕ
align_of c (ValueType.Integer k) = integer_size c k
align_of c (ValueType.Float f) = float_size f
align_of c (ValueType.Struct s) = s.align

-- The float that a value is placed as on Z: "Single, double, or a struct with one field that is either or again such a
-- struct". 001: "a structure equivalent to a floating point type".
abbrev pub equivalent_of : ValueType → Equivalent
equivalent_of (ValueType.Integer k) = Equivalent.Nothing
equivalent_of (ValueType.Float FloatFormat.Single) = Equivalent.Single
equivalent_of (ValueType.Float FloatFormat.Double) = Equivalent.Double
equivalent_of (ValueType.Float FloatFormat.LongDouble) = Equivalent.Nothing
equivalent_of (ValueType.Struct s) = s.equivalent

-- 8: "struct size over 256", in bytes; no other type is as large
abbrev pub max_size : ℕ
max_size = 256

-- 6: "struct depth over 8"
abbrev pub max_depth : ℕ
max_depth = 8

-- what holds of each type that is read: a size of 1 to 256 bytes and an alignment of 1 to 16
pub record Sized (c : Convention) (t : ValueType) : Type 0 where
  pub some : 0 < size_of c t
  pub small : size_of c t ≤ max_size
  pub aligned : 0 < align_of c t
  pub narrow : align_of c t ≤ 16
