-- What is put in words is found there again. Assumes nothing.
use Rattle.sig_types.specs.Codes.{integer_number, float_number}
use Prim.Native.Nat.{ℕ, ◌+◌, ◌-◌, ◌*◌, ◌/◌, ◌%◌, ◌≤◌, ◌<◌}
use mathlib.Core.Path.{◌≡◌, refl, sym, ap, ◌∙◌}
use mathlib.Core.Bool.{Bool, true, false}
use native.Mathlib.Omega.{arith}
use borrow.Author.Tests.{lt-ltb, le-ltb}
use lib.Dec.{ltb}
use Rattle.base_words.specs.Basics.{pick, flag}
use Rattle.base_conventions.specs.declared.Convention.{Convention}
use Rattle.sig_types.specs.declared.IntegerKind.{IntegerKind}
use Rattle.sig_types.specs.declared.FloatFormat.{FloatFormat}
use Rattle.sig_types.specs.declared.Equivalent.{Equivalent}
use Rattle.sig_types.specs.declared.Shape.{Shape}
use Rattle.sig_types.specs.declared.ValueType.{ValueType}
use Rattle.sig_types.specs.Sizes.{Sized}
use Rattle.plan_places.specs.declared.RegisterRange.{RegisterRange}
use Rattle.call_kept.specs.Helpers.{kind_from, format_from, equivalent_code, equivalent_from, Codable, type_code, type_from, range_code, range_from, flag_from}

kind-back : (k : IntegerKind) → kind_from (integer_number k) ≡ k
unfolding kind_from
kind-back IntegerKind.I8 = refl
kind-back IntegerKind.U8 = refl
kind-back IntegerKind.I16 = refl
kind-back IntegerKind.U16 = refl
kind-back IntegerKind.I32 = refl
kind-back IntegerKind.U32 = refl
kind-back IntegerKind.I64 = refl
kind-back IntegerKind.U64 = refl
kind-back IntegerKind.Pointer = refl

kind-few : (k : IntegerKind) → integer_number k < 16
kind-few IntegerKind.I8 = omega arith
kind-few IntegerKind.U8 = omega arith
kind-few IntegerKind.I16 = omega arith
kind-few IntegerKind.U16 = omega arith
kind-few IntegerKind.I32 = omega arith
kind-few IntegerKind.U32 = omega arith
kind-few IntegerKind.I64 = omega arith
kind-few IntegerKind.U64 = omega arith
kind-few IntegerKind.Pointer = omega arith

format_back : (f : FloatFormat) → format_from (float_number f) ≡ f
unfolding format_from
format_back FloatFormat.Single = refl
format_back FloatFormat.Double = refl
format_back FloatFormat.LongDouble = refl

pub format-few : (f : FloatFormat) → float_number f < 16
format-few FloatFormat.Single = omega arith
format-few FloatFormat.Double = omega arith
format-few FloatFormat.LongDouble = omega arith

equivalent-back : (e : Equivalent) → equivalent_from (equivalent_code e) ≡ e
unfolding equivalent_from
equivalent-back Equivalent.Nothing = refl
equivalent-back Equivalent.Single = refl
equivalent-back Equivalent.Double = refl

pub equivalent-few : (e : Equivalent) → equivalent_code e < 4
equivalent-few Equivalent.Nothing = omega arith
equivalent-few Equivalent.Single = omega arith
equivalent-few Equivalent.Double = omega arith

-- every type that is read has a code
pub sized-codable : (c : Convention) (t : ValueType) → Sized c t → Codable t
sized-codable c (ValueType.Integer k) h = tt
sized-codable c (ValueType.Float f) h = tt
sized-codable c (ValueType.Struct s) h = (h.some, h.small, h.narrow)

pub struct-codable : (t : ValueType) (s : Shape) → Codable t → t ≡ ValueType.Struct s → Codable (ValueType.Struct s)
struct-codable t s h e = rw e at h

pub type-back : (t : ValueType) → Codable t → type_from (type_code t) ≡ t
unfolding type_from
type-back (ValueType.Integer k) h = rw (lt-ltb (integer_number k) 16 (kind-few k)) (ap ValueType.Integer (kind-back k))
type-back (ValueType.Float f) h =
    let low : 16 ≤ 16 + float_number f = omega arith in
    let high : 16 + float_number f < 32 = omega (arith, format-few f) in
    let back : 16 + float_number f - 16 ≡ float_number f = omega arith in
    rw (le-ltb (16 + float_number f) 16 low, lt-ltb (16 + float_number f) 32 high, back) (ap ValueType.Float (format_back f))
type-back (ValueType.Struct s) h =
    let few = equivalent-few s.equivalent in
    let x : ℕ = 128 * s.size + (4 * s.align + equivalent_code s.equivalent) in
    let low : 16 ≤ x = omega arith in
    let high : 32 ≤ x = omega arith in
    let size : x / 128 ≡ s.size = omega arith in
    let align : x / 4 % 32 ≡ s.align = omega arith in
    let code : x % 4 ≡ equivalent_code s.equivalent = omega arith in
    rw (le-ltb x 16 low, le-ltb x 32 high, size, align, code) (ap (λ (e : Equivalent). ValueType.Struct (record { size = s.size; align = s.align; equivalent = e })) (equivalent-back s.equivalent))

pub range_back : (r : RegisterRange) → r.count < 256 → range_from (range_code r) ≡ r
unfolding range_from
range_back r h =
    let first : (256 * r.first + r.count) / 256 ≡ r.first = omega arith in
    let count : (256 * r.first + r.count) % 256 ≡ r.count = omega arith in
    rw (first, count)

pub flag-back : (b : Bool) → flag_from (flag b) ≡ b
flag-back true = refl
flag-back false = refl
