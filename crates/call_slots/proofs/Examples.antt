-- Worked examples of the forms, for a reader to compare with document 01, "What stands in a slot". Each computes. Assumes nothing.
use mathlib.Core.Path.{◌≡◌, refl}
use mathlib.Core.Bool.{true}
use mathlib.Core.List.{[], ◌∷◌}
use Prim.Native.Nat.{ℕ}
use lib.Count.{count_leading_zeros}
use Rattle.base_words.specs.Numbers.{bytes_of, value_of, zero_extended, sign_bit, sign_extended}
use Rattle.base_ieee.specs.Format.{join, split}
use Rattle.base_ieee.specs.Widening.{widen, widen_fields}
use Rattle.sig_types.specs.declared.IntegerKind.{IntegerKind}
use Rattle.sig_types.specs.declared.FloatFormat.{FloatFormat}
use Rattle.sig_types.specs.declared.Equivalent.{Equivalent}
use Rattle.sig_types.specs.declared.ValueType.{ValueType}
use Rattle.plan_places.specs.declared.CallRules.{CallRules}
use Rattle.plan_places.specs.Values.{cursor}
use Rattle.plan_places.specs.Spots.{general, floating, area, copies}
use Rattle.plan_places.specs.Power.{words, fprs, share_of, power_share}
use Rattle.plan_places.specs.declared.Edition.{Edition}
use Rattle.plan_places.specs.Step.{power, ppc64_calls, aix_calls, with_ellipsis, span_of}
use Rattle.call_registers.specs.Registers.{spread, gather}
use Rattle.call_slots.specs.Buffers.{slot}
use Rattle.call_slots.specs.Placements.{Placement, placement, standing, slots_of}
use Rattle.call_slots.specs.Forms.{struct_at_head, starts_at_head, extended, home_bytes, float_bytes}

-- structs of bytes: three of them, eight, nine
struct : ℕ → ValueType
struct n = ValueType.Struct (record { size = n; align = 1; equivalent = Equivalent.Nothing })

-- "Wholes are sign- or zero-extended to 64 bits": the i16 -2, and the u16 65534
signed : home_bytes ppc64_calls (ValueType.Integer IntegerKind.I16) 2 (0xff ∷ 0xfe ∷ [])
    ≡ 0xff ∷ 0xff ∷ 0xff ∷ 0xff ∷ 0xff ∷ 0xff ∷ 0xff ∷ 0xfe ∷ []
unfolding home_bytes starts_at_head extended words bytes_of value_of sign_extended zero_extended sign_bit
signed = refl

unsigned : home_bytes ppc64_calls (ValueType.Integer IntegerKind.U16) 2 (0xff ∷ 0xfe ∷ []) ≡ 0 ∷ 0 ∷ 0 ∷ 0 ∷ 0 ∷ 0 ∷ 0xff ∷ 0xfe ∷ []
unfolding home_bytes starts_at_head extended words bytes_of value_of zero_extended
unsigned = refl

-- "in memory it is the second word, the first zero": the single 1.0
single-in-memory : home_bytes ppc64_calls (ValueType.Float FloatFormat.Single) 4 (0x3f ∷ 0x80 ∷ 0 ∷ 0 ∷ []) ≡ 0 ∷ 0 ∷ 0 ∷ 0 ∷ 0x3f ∷ 0x80 ∷ 0 ∷ 0 ∷ []
unfolding home_bytes starts_at_head extended words bytes_of value_of zero_extended
single-in-memory = refl

-- "A Z single stands in the upper half of its FPR, lower half zero"
z-single : float_bytes CallRules.Z (ValueType.Float FloatFormat.Single) (0x3f ∷ 0x80 ∷ 0 ∷ 0 ∷ []) ≡ 0x3f ∷ 0x80 ∷ 0 ∷ 0 ∷ 0 ∷ 0 ∷ 0 ∷ 0 ∷ []
unfolding float_bytes bytes_of value_of
z-single = refl

-- No. 2: "a struct smaller than a doubleword in the least significant bytes; only larger ones are padded at the tail"
power-struct : home_bytes ppc64_calls (struct 3) 3 (1 ∷ 2 ∷ 3 ∷ []) ≡ 0 ∷ 0 ∷ 0 ∷ 0 ∷ 0 ∷ 1 ∷ 2 ∷ 3 ∷ []
unfolding home_bytes struct_at_head starts_at_head extended words bytes_of value_of zero_extended struct
power-struct = refl

power-doubleword : home_bytes ppc64_calls (struct 8) 8 (1 ∷ 2 ∷ 3 ∷ 4 ∷ 5 ∷ 6 ∷ 7 ∷ 8 ∷ []) ≡ 1 ∷ 2 ∷ 3 ∷ 4 ∷ 5 ∷ 6 ∷ 7 ∷ 8 ∷ []
unfolding home_bytes struct_at_head starts_at_head words struct
power-doubleword = refl

power-larger : home_bytes ppc64_calls (struct 9) 9 (1 ∷ 2 ∷ 3 ∷ 4 ∷ 5 ∷ 6 ∷ 7 ∷ 8 ∷ 9 ∷ [])
    ≡ 1 ∷ 2 ∷ 3 ∷ 4 ∷ 5 ∷ 6 ∷ 7 ∷ 8 ∷ 9 ∷ 0 ∷ 0 ∷ 0 ∷ 0 ∷ 0 ∷ 0 ∷ 0 ∷ []
unfolding home_bytes struct_at_head starts_at_head words struct
power-larger = refl

-- on Z "other small ones are right-justified, zeros above"
z-struct : home_bytes CallRules.Z (struct 2) 2 (1 ∷ 2 ∷ []) ≡ 0 ∷ 0 ∷ 0 ∷ 0 ∷ 0 ∷ 0 ∷ 1 ∷ 2 ∷ []
unfolding home_bytes starts_at_head extended bytes_of value_of zero_extended struct
z-struct = refl

-- No. 12: "a long double argument takes two successive FPRs": in the later edition ld of figure 3-18 is in f2 and f3, a doubleword in each
long-double : Placement
long-double = placement (ValueType.Float FloatFormat.LongDouble) 16 (span_of (power 8 Edition.Later) (cursor 8 2 40 0) (ValueType.Float FloatFormat.LongDouble) 16)

long-double-stands : slots_of (power 8 Edition.Later) 0 long-double (1 ∷ 2 ∷ 3 ∷ 4 ∷ 5 ∷ 6 ∷ 7 ∷ 8 ∷ 9 ∷ 10 ∷ 11 ∷ 12 ∷ 13 ∷ 14 ∷ 15 ∷ 16 ∷ [])
    ≡ slot (floating 2) (1 ∷ 2 ∷ 3 ∷ 4 ∷ 5 ∷ 6 ∷ 7 ∷ 8 ∷ 9 ∷ 10 ∷ 11 ∷ 12 ∷ 13 ∷ 14 ∷ 15 ∷ 16 ∷ []) ∷ slot (general 8) [] ∷ slot (area 56) [] ∷ slot (copies 0) [] ∷ []
unfolding slots_of long-double standing spread span_of power_share share_of fprs words float_bytes
long-double-stands = refl

-- No. 5, with an ellipsis: the single 1.0 in f1, and as well in r3, where "a single's GPR image is as in memory"
variadic-single : Placement
variadic-single = placement (ValueType.Float FloatFormat.Single) 4 (span_of (with_ellipsis true ppc64_calls) (cursor 3 1 0 0) (ValueType.Float FloatFormat.Single) 4)

variadic-single-stands : slots_of (with_ellipsis true ppc64_calls) 0 variadic-single (0x3f ∷ 0x80 ∷ 0 ∷ 0 ∷ [])
    ≡ slot (floating 1) (0x3f ∷ 0xf0 ∷ 0 ∷ 0 ∷ 0 ∷ 0 ∷ 0 ∷ 0 ∷ []) ∷ slot (general 3) (0 ∷ 0 ∷ 0 ∷ 0 ∷ 0x3f ∷ 0x80 ∷ 0 ∷ 0 ∷ []) ∷ slot (area 8) [] ∷ slot (copies 0) [] ∷ []
unfolding slots_of variadic-single standing spread with_ellipsis span_of power_share share_of fprs words home_bytes starts_at_head extended bytes_of value_of zero_extended float_bytes widen widen_fields join split count_leading_zeros
variadic-single-stands = refl

-- ---- AIX, whose words have 4 bytes (No. 1: "Narrow wholes and structs fill 4-byte words as they fill doublewords on PPC64")

-- the i16 -2 is a word; the single 1.0 "is one word"; three bytes are at a word's head: "AIX structs keep the head rule"
aix-signed : home_bytes aix_calls (ValueType.Integer IntegerKind.I16) 2 (0xff ∷ 0xfe ∷ []) ≡ 0xff ∷ 0xff ∷ 0xff ∷ 0xfe ∷ []
unfolding home_bytes starts_at_head extended words bytes_of value_of sign_extended zero_extended sign_bit
aix-signed = refl

aix-single : home_bytes aix_calls (ValueType.Float FloatFormat.Single) 4 (0x3f ∷ 0x80 ∷ 0 ∷ 0 ∷ []) ≡ 0x3f ∷ 0x80 ∷ 0 ∷ 0 ∷ []
unfolding home_bytes starts_at_head extended words bytes_of value_of zero_extended
aix-single = refl

aix-struct : home_bytes aix_calls (struct 3) 3 (1 ∷ 2 ∷ 3 ∷ []) ≡ 1 ∷ 2 ∷ 3 ∷ 0 ∷ []
unfolding home_bytes struct_at_head starts_at_head words struct
aix-struct = refl

-- a u64 whose first word is in r10 and whose second is the first of the excess, at 32: "r3 to r10 take the first eight"
straddling : Placement
straddling = placement (ValueType.Integer IntegerKind.U64) 8 (span_of aix_calls (cursor 10 1 28 0) (ValueType.Integer IntegerKind.U64) 8)

-- "Its image keeps each GPR in the low half of its 8 bytes, high half zero"
aix-straddles : slots_of aix_calls 0 straddling (1 ∷ 2 ∷ 3 ∷ 4 ∷ 5 ∷ 6 ∷ 7 ∷ 8 ∷ [])
    ≡ slot (floating 1) [] ∷ slot (general 10) (0 ∷ 0 ∷ 0 ∷ 0 ∷ 1 ∷ 2 ∷ 3 ∷ 4 ∷ []) ∷ slot (area 32) (5 ∷ 6 ∷ 7 ∷ 8 ∷ []) ∷ slot (copies 0) [] ∷ []
unfolding slots_of straddling standing spread span_of power_share share_of fprs words home_bytes starts_at_head extended bytes_of value_of zero_extended
aix-straddles = refl

-- "AIX does the same by words": with an ellipsis a double is in f1, in r10 and in the first word of the excess
variadic-double : Placement
variadic-double = placement (ValueType.Float FloatFormat.Double) 8 (span_of (with_ellipsis true aix_calls) (cursor 10 1 28 0) (ValueType.Float FloatFormat.Double) 8)

variadic-double-stands : slots_of (with_ellipsis true aix_calls) 0 variadic-double (1 ∷ 2 ∷ 3 ∷ 4 ∷ 5 ∷ 6 ∷ 7 ∷ 8 ∷ [])
    ≡ slot (floating 1) (1 ∷ 2 ∷ 3 ∷ 4 ∷ 5 ∷ 6 ∷ 7 ∷ 8 ∷ [])
    ∷ slot (general 10) (0 ∷ 0 ∷ 0 ∷ 0 ∷ 1 ∷ 2 ∷ 3 ∷ 4 ∷ [])
    ∷ slot (area 32) (5 ∷ 6 ∷ 7 ∷ 8 ∷ [])
    ∷ slot (copies 0) []
    ∷ []
unfolding slots_of variadic-double standing spread with_ellipsis span_of power_share share_of fprs words home_bytes starts_at_head extended bytes_of value_of zero_extended float_bytes
variadic-double-stands = refl

-- high halves are ignored
aix-gathered : gather 4 2 (9 ∷ 9 ∷ 9 ∷ 9 ∷ 1 ∷ 2 ∷ 3 ∷ 4 ∷ 9 ∷ 9 ∷ 9 ∷ 9 ∷ 5 ∷ 6 ∷ 7 ∷ 8 ∷ []) ≡ 1 ∷ 2 ∷ 3 ∷ 4 ∷ 5 ∷ 6 ∷ 7 ∷ 8 ∷ []
unfolding gather
aix-gathered = refl
