-- The codes of integers and floats: what a reader takes a code for, and, for the encoder of types, the code of each. Neither is said by the other, so
-- that the two check each other. Assumes nothing.
use Rattle.std.specs.Prelude.{ℕ, eqb, Result, Ok, Err}
use Rattle.base_words.specs.Basics.{pick}
use Rattle.sig_types.specs.declared.IntegerKind.{IntegerKind}
use Rattle.sig_types.specs.declared.FloatFormat.{FloatFormat}
use Rattle.sig_types.specs.declared.UnknownCode.{UnknownCode}

-- what a code that is no type's is refused with
abbrev pub unknown_code : UnknownCode
unknown_code = record {}

-- "codes 0 to 8 for i8, u8, i16, u16, i32, u32, i64, u64, pointer"
unfoldable pub integer_code : ℕ → Result IntegerKind UnknownCode
integer_code x =
    pick (eqb x 0) (Ok IntegerKind.I8)
    (pick (eqb x 1) (Ok IntegerKind.U8)
    (pick (eqb x 2) (Ok IntegerKind.I16)
    (pick (eqb x 3) (Ok IntegerKind.U16)
    (pick (eqb x 4) (Ok IntegerKind.I32)
    (pick (eqb x 5) (Ok IntegerKind.U32)
    (pick (eqb x 6) (Ok IntegerKind.I64)
    (pick (eqb x 7) (Ok IntegerKind.U64)
    (pick (eqb x 8) (Ok IntegerKind.Pointer) (Err unknown_code)))))))))

-- "codes 0 single, 1 double, 2 long double"
unfoldable pub float_code : ℕ → Result FloatFormat UnknownCode
float_code x =
    pick (eqb x 0) (Ok FloatFormat.Single)
    (pick (eqb x 1) (Ok FloatFormat.Double)
    (pick (eqb x 2) (Ok FloatFormat.LongDouble) (Err unknown_code)))

abbrev pub integer_number : IntegerKind → ℕ
integer_number IntegerKind.I8 = 0
integer_number IntegerKind.U8 = 1
integer_number IntegerKind.I16 = 2
integer_number IntegerKind.U16 = 3
integer_number IntegerKind.I32 = 4
integer_number IntegerKind.U32 = 5
integer_number IntegerKind.I64 = 6
integer_number IntegerKind.U64 = 7
integer_number IntegerKind.Pointer = 8

abbrev pub float_number : FloatFormat → ℕ
float_number FloatFormat.Single = 0
float_number FloatFormat.Double = 1
float_number FloatFormat.LongDouble = 2
