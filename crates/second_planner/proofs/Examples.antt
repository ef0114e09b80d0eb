-- Worked examples of the papers, on the definitions. Assumes nothing.
use mathlib.Core.Path.{◌≡◌, refl}
use mathlib.Core.Bool.{true, false}
use mathlib.Core.List.{List, [], ◌∷◌, map}
use Prim.Native.Nat.{ℕ}
use Rattle.base_words.specs.Basics.{round_up}
use Rattle.base_conventions.specs.declared.Convention.{Convention}
use Rattle.sig_types.specs.declared.Equivalent.{Equivalent}
use Rattle.sig_types.specs.declared.IntegerKind.{IntegerKind}
use Rattle.sig_types.specs.declared.FloatFormat.{FloatFormat}
use Rattle.sig_types.specs.declared.ValueType.{ValueType}
use Rattle.second_parameters.specs.declared.Run.{Run}
use Rattle.second_parameters.specs.declared.Parameter.{Parameter}
use Rattle.second_parameters.specs.Values.{numbers, run_of, no_run}
use Rattle.second_structure.specs.Structure.{words_in, fields_from, words_to, area_bytes, over_words, over_floats, over_nothing, floats, laid_over, registers_over, first_straddling}
use Rattle.second_slot_scan.specs.Slots.{initial, copied, slot_by, slot_of, slots_from}

-- where a parameter is: GPRs, FPRs, memory
record Where : Type 0 where
  general : Run
  floating : Run
  memory : Run

abbrev gpr : ℕ → ℕ → Where
gpr n k = record { general = numbers n k; floating = no_run; memory = no_run }

abbrev fpr : ℕ → ℕ → Where
fpr n k = record { general = no_run; floating = numbers n k; memory = no_run }

abbrev mem : ℕ → ℕ → Where
mem at n = record { general = no_run; floating = no_run; memory = numbers at n }

-- with an ellipsis: FPRs, and GPRs or memory as well
abbrev fpr-gpr : ℕ → ℕ → ℕ → ℕ → Where
fpr-gpr f k n l = record { general = numbers n l; floating = numbers f k; memory = no_run }

abbrev fpr-mem : ℕ → ℕ → ℕ → ℕ → Where
fpr-mem f k at n = record { general = no_run; floating = numbers f k; memory = numbers at n }

abbrev shown : Parameter → Where
shown p = record { general = p.general; floating = p.floating; memory = p.memory }

abbrev int : ValueType
int = ValueType.Integer IntegerKind.I32

abbrev single : ValueType
single = ValueType.Float FloatFormat.Single

abbrev double : ValueType
double = ValueType.Float FloatFormat.Double

abbrev long_double : ValueType
long_double = ValueType.Float FloatFormat.LongDouble

-- 004, figure 5: mooFunc (SInt32 i1, float f1, double d1, SInt16 s1, double d2, UInt8 c1, UInt16 s2, float f2, SInt32 i2)
abbrev moo_func : List ValueType
moo_func =
    int ∷ single ∷ double ∷ ValueType.Integer IntegerKind.I16 ∷ double ∷ ValueType.Integer IntegerKind.U8
    ∷ ValueType.Integer IntegerKind.U16 ∷ single ∷ int ∷ []

pub figure-5 : map shown (registers_over false false 4 0 moo_func (fields_from Convention.Aix 4 0 moo_func))
    ≡ gpr 3 1 ∷ fpr 1 1 ∷ fpr 2 1 ∷ gpr 7 1 ∷ fpr 3 1 ∷ gpr 10 1 ∷ mem 32 4 ∷ fpr 4 1 ∷ mem 40 4 ∷ []
unfolding registers_over fields_from words_in round_up floats laid_over over_words over_floats over_nothing run_of
figure-5 = refl

-- 000, figure 3-18: c, ff, d, ld, s, gg, t, e, hh, with structs of 16 bytes; its area is 96 bytes
abbrev sixteen : ValueType
sixteen = ValueType.Struct (record { size = 16; align = 8; equivalent = Equivalent.Nothing })

abbrev figure : List ValueType
figure = int ∷ double ∷ int ∷ long_double ∷ sixteen ∷ double ∷ sixteen ∷ int ∷ double ∷ []

pub figure-3-18 : map shown (registers_over false false 8 0 figure (fields_from Convention.Ppc64 8 0 figure))
    ≡ gpr 3 1 ∷ fpr 1 1 ∷ gpr 5 1 ∷ gpr 6 2 ∷ gpr 8 2 ∷ fpr 2 1 ∷ mem 64 16 ∷ mem 80 8 ∷ fpr 3 1 ∷ []
unfolding registers_over fields_from words_in round_up floats laid_over over_words over_floats over_nothing run_of
figure-3-18 = refl

pub figure-3-18-area : area_bytes 8 (words_to Convention.Ppc64 8 0 figure) ≡ 96
unfolding area_bytes words_to words_in round_up
figure-3-18-area = refl

-- 02, No. 12: "In figure 3-18, ld is then in f2 and f3, gg in f4, hh in f5"
pub figure-later : map shown (registers_over false true 8 0 figure (fields_from Convention.Ppc64b 8 0 figure))
    ≡ gpr 3 1 ∷ fpr 1 1 ∷ gpr 5 1 ∷ fpr 2 2 ∷ gpr 8 2 ∷ fpr 4 1 ∷ mem 64 16 ∷ mem 80 8 ∷ fpr 5 1 ∷ []
unfolding registers_over fields_from words_in round_up floats laid_over over_words over_floats over_nothing run_of
figure-later = refl

-- 000, under its figure: "if the prototype contains an ellipsis, then, in addition to the above, ff is passed in r4 and gg is passed in r10. The
-- floating point argument hh is passed in two places: the value is stored both in f3 and on the stack"
pub figure-ellipsis : map shown (registers_over true false 8 0 figure (fields_from Convention.Ppc64 8 0 figure))
    ≡ gpr 3 1 ∷ fpr-gpr 1 1 4 1 ∷ gpr 5 1 ∷ gpr 6 2 ∷ gpr 8 2 ∷ fpr-gpr 2 1 10 1 ∷ mem 64 16 ∷ mem 80 8 ∷ fpr-mem 3 1 88 8 ∷ []
unfolding registers_over fields_from words_in round_up floats laid_over over_words over_floats over_nothing run_of
figure-ellipsis = refl

-- 02, No. 12: "With an ellipsis each doubleword also goes in its GPR while its own w is below 8, then in memory"
pub figure-later-ellipsis : map shown (registers_over true true 8 0 figure (fields_from Convention.Ppc64b 8 0 figure))
    ≡ gpr 3 1 ∷ fpr-gpr 1 1 4 1 ∷ gpr 5 1 ∷ fpr-gpr 2 2 6 2 ∷ gpr 8 2 ∷ fpr-gpr 4 1 10 1 ∷ mem 64 16 ∷ mem 80 8 ∷ fpr-mem 5 1 88 8 ∷ []
unfolding registers_over fields_from words_in round_up floats laid_over over_words over_floats over_nothing run_of
figure-later-ellipsis = refl

-- 02, No. 12: "When only f13 is left": six long doubles have f1 to f12, and the seventh would begin at f13 and end past it; after a double, which
-- takes f13, it is in memory only
abbrev six : List ValueType → List ValueType
six ts = long_double ∷ long_double ∷ long_double ∷ long_double ∷ long_double ∷ long_double ∷ ts

pub seventh-straddles : first_straddling true 0 0 (six (long_double ∷ [])) ≡ 7
unfolding first_straddling floats
seventh-straddles = refl

pub none-straddles : first_straddling true 0 0 (six (double ∷ long_double ∷ [])) ≡ 0
unfolding first_straddling floats
none-straddles = refl

pub past-the-last : map shown (registers_over false true 8 0 (six (double ∷ long_double ∷ [])) (fields_from Convention.Ppc64b 8 0 (six (double ∷ long_double ∷ []))))
    ≡ fpr 1 2 ∷ fpr 3 2 ∷ fpr 5 2 ∷ fpr 7 2 ∷ fpr 9 2 ∷ fpr 11 2 ∷ fpr 13 1 ∷ mem 104 16 ∷ []
unfolding registers_over fields_from words_in round_up floats laid_over over_words over_floats over_nothing run_of
past-the-last = refl

-- 001, table 10: func(i, j, g, k, l, ll, f, h, m)
abbrev table_ten : List ValueType
table_ten = int ∷ int ∷ double ∷ int ∷ int ∷ ValueType.Integer IntegerKind.I64 ∷ double ∷ double ∷ int ∷ []

pub table-10 : map shown (slots_from Convention.Z (initial false) table_ten)
    ≡ gpr 2 1 ∷ gpr 3 1 ∷ fpr 0 1 ∷ gpr 4 1 ∷ gpr 5 1 ∷ gpr 6 1 ∷ fpr 2 1 ∷ fpr 4 1 ∷ mem 0 8 ∷ []
unfolding slots_from initial slot_of slot_by copied run_of
table-10 = refl
