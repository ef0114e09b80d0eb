-- The PowerPC conventions as source document 004 works, "Parameters": "lay all parameters out as one structure in memory first, then
-- lay the registers over it" (02, No. 14). Over the bytes w of a word: 004 and code 3 have 4, codes 1 and 4 have 8. `paired`: a long double
-- takes two FPRs, as in code 4; else it goes in words. `ellipsis`: the parameter list ends in one. Assumes nothing.
use Rattle.std.specs.Prelude.{ℕ, zero, suc, ◌+◌, ◌-◌, ◌*◌, ◌/◌, min, max, Bool, true, false, List, [], ◌∷◌, leb, ltb, Some, None, Option}
use Rattle.base_words.specs.Basics.{pick, round_up}
use Rattle.base_conventions.specs.declared.Convention.{Convention}
use Rattle.sig_types.specs.declared.FloatFormat.{FloatFormat}
use Rattle.sig_types.specs.declared.ValueType.{ValueType}
use Rattle.sig_types.specs.Sizes.{size_of}
use Rattle.second_parameters.specs.declared.Run.{Run}
use Rattle.second_parameters.specs.declared.Parameter.{Parameter}
use Rattle.second_parameters.specs.declared.Returned.{Returned}
use Rattle.second_parameters.specs.Values.{numbers, run_of, no_run, table_with}
use Rattle.second_structure.specs.declared.Structure.{Structure}

-- ---- the structure

-- "All parameters are aligned on 4-byte (word) boundaries"; "followed by padding to make a multiple of 4 bytes": the words of n bytes
unfoldable pub words_in : ℕ → ℕ → ℕ
words_in w n = round_up n w / w

-- "The parameters are placed in the structure from left to right": the field of each, by its first word and its count of words
unfoldable pub fields_from : Convention → ℕ → ℕ → List ValueType → List Run
fields_from c w at [] = []
fields_from c w at (t ∷ ts) = numbers at (words_in w (size_of c t)) ∷ fields_from c w (at + words_in w (size_of c t)) ts

-- the words of the whole structure
unfoldable pub words_to : Convention → ℕ → ℕ → List ValueType → ℕ
words_to c w at [] = at
words_to c w at (t ∷ ts) = words_to c w (at + words_in w (size_of c t)) ts

abbrev pub structure_of : Convention → ℕ → ℕ → List ValueType → Structure
structure_of c w at ts = record { fields = table_with no_run (fields_from c w at ts); words = words_to c w at ts }

-- "a pointer must be passed as an implicit left-most parameter": one word
abbrev pub hidden_words : Bool → ℕ
hidden_words hidden = pick hidden 1 0

-- "the parameter area must be at least 8 words": in bytes
unfoldable pub area_bytes : ℕ → ℕ → ℕ
area_bytes w n = w * max n 8

-- ---- the registers over it

abbrev pub field_bytes : ℕ → Run → Run
field_bytes w f = run_of (w * f.first) (w * f.count)

-- "The first 8 words are placed in GPR3 through GPR10"; the rest is written "into the parameter area". A parameter that is passed "in both
-- the floating-point and the general-purpose registers" has FPRs as well
unfoldable pub over_words : ℕ → Run → Run → Parameter
over_words w fprs f = record {
  general = run_of (3 + f.first) (min (f.first + f.count) 8 - f.first);
  floating = fprs;
  field = field_bytes w f;
  memory = run_of (w * max f.first 8) (w * (f.first + f.count - max f.first 8));
  copy = no_run;
  reference = false;
}

-- "Floating-point parameters are placed in the floating-point registers"; "the corresponding GPRs .. are skipped"
unfoldable pub over_floats : ℕ → Run → Run → Parameter
over_floats w fprs f = record { general = no_run; floating = fprs; field = field_bytes w f; memory = no_run; copy = no_run; reference = false }

-- "If the number of parameters exceeds the number of usable registers, .. into the parameter area"; 01: "after f13, memory only"
unfoldable pub over_nothing : ℕ → Run → Parameter
over_nothing w f = record { general = no_run; floating = no_run; field = field_bytes w f; memory = field_bytes w f; copy = no_run; reference = false }

-- the FPRs that a parameter asks for; 02, No. 12: "a long double argument takes two successive FPRs instead of GPRs"
unfoldable pub floats : Bool → ValueType → ℕ
floats paired (ValueType.Integer k) = 0
floats paired (ValueType.Float FloatFormat.Single) = 1
floats paired (ValueType.Float FloatFormat.Double) = 1
floats true (ValueType.Float FloatFormat.LongDouble) = 2
floats false (ValueType.Float FloatFormat.LongDouble) = 0
floats paired (ValueType.Struct s) = 0

-- "FPR1 through FPR13", over the floats in order: those before asked for m
abbrev pub fprs_from : ℕ → ℕ → Run
fprs_from m k = run_of (1 + m) k

-- A parameter that asks for k FPRs, where those before it asked for m: in "a routine with fixed parameters" in them alone, with an ellipsis "in both".
unfoldable pub laid_over : Bool → ℕ → ℕ → ℕ → Run → Parameter
laid_over ellipsis w zero m f = over_words w no_run f
laid_over false w (suc k) m f = pick (leb (m + suc k) 13) (over_floats w (fprs_from m (suc k)) f) (over_nothing w f)
laid_over true w (suc k) m f = over_words w (pick (leb (m + suc k) 13) (fprs_from m (suc k)) no_run) f

unfoldable pub registers_over : Bool → Bool → ℕ → ℕ → List ValueType → List Run → List Parameter
registers_over ellipsis paired w m [] fs = []
registers_over ellipsis paired w m (t ∷ ts) [] = []
registers_over ellipsis paired w m (t ∷ ts) (f ∷ fs) = laid_over ellipsis w (floats paired t) m f ∷ registers_over ellipsis paired w (m + floats paired t) ts fs

-- ---- where the papers are not clear

-- 02, No. 12: "When only f13 is left the editions we hold aren't clear": a parameter's FPRs would begin at f13 or before it and end past it
abbrev pub straddles : ℕ → ℕ → Bool
straddles m k = pick (ltb m 13) (ltb 13 (m + k)) false

-- the number of the first such parameter, counted from 1, where i came before; 0 where there is none
unfoldable pub first_straddling : Bool → ℕ → ℕ → List ValueType → ℕ
first_straddling paired m i [] = 0
first_straddling paired m i (t ∷ ts) = pick (straddles m (floats paired t)) (suc i) (first_straddling paired (m + floats paired t) (suc i) ts)

-- ---- the result

-- "If a function returns a composite value": through a hidden address
abbrev pub power_hidden : Option ValueType → Bool
power_hidden None = false
power_hidden (Some (ValueType.Integer k)) = false
power_hidden (Some (ValueType.Float f)) = false
power_hidden (Some (ValueType.Struct s)) = true

-- "floating-point function values are returned in register FPR1 (or FPR1 and FPR2 for long double values). Other values are
-- returned in GPR3"; 02, No. 1: "64-bit wholes r3 and r4"; "the address is passed in GPR3"
abbrev pub power_returned : Convention → ℕ → Option ValueType → Returned
power_returned c w None = Returned.Nothing
power_returned c w (Some (ValueType.Integer k)) = Returned.General (run_of 3 (words_in w (size_of c (ValueType.Integer k))))
power_returned c w (Some (ValueType.Float FloatFormat.Single)) = Returned.Floating (run_of 1 1)
power_returned c w (Some (ValueType.Float FloatFormat.Double)) = Returned.Floating (run_of 1 1)
power_returned c w (Some (ValueType.Float FloatFormat.LongDouble)) = Returned.Floating (run_of 1 2)
power_returned c w (Some (ValueType.Struct s)) = Returned.Hidden (run_of 3 1)
