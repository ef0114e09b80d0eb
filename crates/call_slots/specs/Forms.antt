-- The form of a value in its place. Document 01, "What stands in a slot". A form is a list of bytes: that of a value in general
-- registers and memory, word after word, and that of a float in FPRs. n is the value's size in bytes, v its bytes.
-- Assumes nothing.
-- ---- in general registers and memory
use Rattle.std.specs.Prelude.{Option, Some, None, ℕ, ◌+◌, ◌-◌, ◌*◌, ◌^◌, Bool, true, false, List, [], ◌++◌, eqb, leb, take, replicate}
use Rattle.base_words.specs.Basics.{pick}
use Rattle.base_words.specs.Numbers.{bytes_of, value_of, zero_extended, sign_extended}
use Rattle.base_ieee.specs.Widening.{widen}
use Rattle.base_ieee.specs.Narrowing.{narrow}
use Rattle.sig_types.specs.declared.IntegerKind.{IntegerKind}
use Rattle.sig_types.specs.declared.FloatFormat.{FloatFormat}
use Rattle.sig_types.specs.declared.Equivalent.{Equivalent}
use Rattle.sig_types.specs.declared.ValueType.{ValueType}
use Rattle.sig_types.specs.Sizes.{equivalent_of}
use Rattle.plan_places.specs.declared.CallRules.{CallRules}
use Rattle.plan_places.specs.Power.{words}
use Rattle.plan_places.specs.Step.{word_of}

-- the bytes of the words that a value takes: "Sizes in doublewords .. struct size / 8 rounded up"; AIX: "a double or 64-bit whole uses two words"; Z: "8
-- stack bytes", or a register
abbrev pub room_of : CallRules → ℕ → ℕ
room_of (CallRules.Power f) n = f.word * words f.word n
room_of CallRules.Z n = word_of CallRules.Z

-- the integers in two's complement, those of the codes "i8 .. i16 .. i32 .. i64"
abbrev pub signed_kind : IntegerKind → Bool
signed_kind IntegerKind.I8 = true
signed_kind IntegerKind.U8 = false
signed_kind IntegerKind.I16 = true
signed_kind IntegerKind.U16 = false
signed_kind IntegerKind.I32 = true
signed_kind IntegerKind.U32 = false
signed_kind IntegerKind.I64 = true
signed_kind IntegerKind.U64 = false
signed_kind IntegerKind.Pointer = false

abbrev pub is_signed : ValueType → Bool
is_signed (ValueType.Integer k) = signed_kind k
is_signed (ValueType.Float f) = false
is_signed (ValueType.Struct s) = false

-- whether a PowerPC struct of n bytes starts at the head of its words, which have w bytes. No. 2, where words are doublewords: "a struct smaller
-- than a doubleword in the least significant bytes; only larger ones are padded at the tail" (one of 8 bytes has no padding); "AIX structs keep the head
-- rule"
unfoldable pub struct_at_head : ℕ → ℕ → Bool
struct_at_head w n = pick (eqb w 8) (leb 8 n) true

-- by the bytes w of a PowerPC word; a long double fills its words. What doesn't start at their head stands at their end: an integer, a single in memory
-- ("the second word, the first zero"; Z: "right-justified on the stack"), a small struct ("zeros go above"; Z: "right-justified, zeros above")
abbrev pub head_first : ℕ → ValueType → Bool
head_first w (ValueType.Integer k) = false
head_first w (ValueType.Float FloatFormat.Single) = false
head_first w (ValueType.Float FloatFormat.Double) = false
head_first w (ValueType.Float FloatFormat.LongDouble) = true
head_first w (ValueType.Struct s) = struct_at_head w s.size

unfoldable pub starts_at_head : CallRules → ValueType → Bool
starts_at_head (CallRules.Power f) t = head_first f.word t
starts_at_head CallRules.Z t = false

-- "Wholes are sign- or zero-extended to 64 bits", of which an AIX word has the lowest 32; of everything else the bytes above are zeros
unfoldable pub extended : ValueType → ℕ → ℕ → ℕ
extended t n x = pick (is_signed t) (sign_extended n x) (zero_extended n x)

-- the form of a value in general registers and memory
unfoldable pub home_bytes : CallRules → ValueType → ℕ → List ℕ → List ℕ
home_bytes r t n v =
    pick (starts_at_head r t) (v ++ replicate (room_of r n - n) 0) (bytes_of (room_of r n) (extended t n (value_of v)))

-- where in that form the value's own bytes start: "Reading takes a value's own bytes and ignores the slot's padding"
unfoldable pub own_start : CallRules → ValueType → ℕ → ℕ
own_start r t n = pick (starts_at_head r t) 0 (room_of r n - n)

-- ---- in floating registers

-- a single's bits x as the 64 bits of its FPR: "A PPC64 single is widened bit for bit in an FPR, never quieted"; "A Z single stands
-- in the upper half of its FPR, lower half zero (ours)"
abbrev pub single_word : CallRules → ℕ → ℕ
single_word (CallRules.Power f) x = widen x
single_word CallRules.Z x = x * 2 ^ 32

-- "On Z, a struct placed as a float stands as that float": it is told by the float that the type is equivalent to. A double stands as
-- it is; so does a long double in "two successive FPRs" (No. 12), a doubleword in each
abbrev pub float_form : CallRules → Equivalent → List ℕ → List ℕ
float_form r Equivalent.Single v = bytes_of 8 (single_word r (value_of v))
float_form r Equivalent.Double v = v
float_form r Equivalent.Nothing v = v

-- the form of a value in FPRs, one after the other
unfoldable pub float_bytes : CallRules → ValueType → List ℕ → List ℕ
float_bytes r t v = float_form r (equivalent_of t) v

-- the value's own bytes in those of its FPRs: a single's four, of which there are none where the FPR is no widened single (14)
abbrev pub narrowed_bytes : Option ℕ → List ℕ
narrowed_bytes (Some x) = bytes_of 4 x
narrowed_bytes None = []

abbrev pub single_value : CallRules → List ℕ → List ℕ
single_value (CallRules.Power f) bs = narrowed_bytes (narrow (value_of bs))
single_value CallRules.Z bs = take 4 bs

abbrev pub float_value_as : CallRules → Equivalent → List ℕ → List ℕ
float_value_as r Equivalent.Single bs = single_value r bs
float_value_as r Equivalent.Double bs = bs
float_value_as r Equivalent.Nothing bs = bs

unfoldable pub float_value : CallRules → ValueType → List ℕ → List ℕ
float_value r t bs = float_value_as r (equivalent_of t) bs
