-- Z slot by slot, as source document 001 works, "Parameter passing": INITIALIZE, SCAN, DOUBLE_OR_FLOAT, SIMPLE_ARG and OTHER. Stack bytes
-- count from "parameter word 1". Assumes nothing.
use Rattle.std.specs.Prelude.{ℕ, ◌+◌, Bool, true, false, List, [], ◌∷◌, ltb, eqb, Some, None, Option}
use Rattle.base_words.specs.Basics.{pick, round_up}
use Rattle.base_conventions.specs.declared.Convention.{Convention}
use Rattle.sig_types.specs.declared.Equivalent.{Equivalent}
use Rattle.sig_types.specs.declared.FloatFormat.{FloatFormat}
use Rattle.sig_types.specs.declared.ValueType.{ValueType}
use Rattle.sig_types.specs.Sizes.{size_of, equivalent_of}
use Rattle.second_parameters.specs.declared.Run.{Run}
use Rattle.second_parameters.specs.declared.Parameter.{Parameter}
use Rattle.second_slot_scan.specs.declared.Scan.{Scan}
use Rattle.second_slot_scan.specs.declared.ScannedSlot.{ScannedSlot}
use Rattle.second_slot_scan.specs.declared.Copied.{Copied}
use Rattle.second_slot_scan.specs.declared.Scanned.{Scanned}
use Rattle.second_parameters.specs.declared.Returned.{Returned}
use Rattle.second_parameters.specs.Values.{run_of, no_run, no_parameter, table_with}

abbrev pub scan : ℕ → ℕ → ℕ → ℕ → Scan
scan gr fr starg copies = record { gr = gr; fr = fr; starg = starg; copies = copies }

-- "Set fr=0, gr=2, and starg to the address of parameter word 1"; 01: gr "3 with a hidden result address in r2"
unfoldable pub initial : Bool → Scan
initial hidden = scan (pick hidden 3 2) 0 0 0

-- ---- one argument

abbrev floating : Equivalent → Bool
floating Equivalent.Nothing = false
floating Equivalent.Single = true
floating Equivalent.Double = true

-- "A single length floating point type, a double length floating point type, a structure equivalent to a floating point type"
abbrev pub double_or_float : ValueType → Bool
double_or_float t = floating (equivalent_of t)

-- not "of 1, 2, 4 or 8 bytes"
abbrev pub other_size : ℕ → Bool
other_size n = pick (eqb n 1) false (pick (eqb n 2) false (pick (eqb n 4) false (pick (eqb n 8) false true)))

-- of a struct that is equivalent to a floating point type, or to none
abbrev pub copied_struct : Equivalent → ℕ → Bool
copied_struct Equivalent.Nothing n = other_size n
copied_struct Equivalent.Single n = false
copied_struct Equivalent.Double n = false

-- "A struct or union of another size, or a long double, any of which shall be passed as a pointer to the object, or to a copy"
unfoldable pub copied : ValueType → ℕ → Bool
copied (ValueType.Integer k) n = false
copied (ValueType.Float FloatFormat.Single) n = false
copied (ValueType.Float FloatFormat.Double) n = false
copied (ValueType.Float FloatFormat.LongDouble) n = true
copied (ValueType.Struct s) n = copied_struct s.equivalent n

-- 01: "at the next multiple of 8 in the copy buffer"
abbrev pub copy_at : Bool → ℕ → ℕ → Copied
copy_at true at n = record { bytes = run_of (round_up at 8) n; end = round_up at 8 + n; reference = true }
copy_at false at n = record { bytes = no_run; end = at; reference = false }

abbrev pub slot_for : Run → Run → Run → Copied → Scan → ScannedSlot
slot_for g f m k next = record { parameter = record { general = g; floating = f; field = m; memory = m; copy = k.bytes; reference = k.reference }; next = next }

-- "load the argument value into floating-point register fr, set fr to fr+2"
abbrev pub in_floating : Scan → Copied → ScannedSlot
in_floating s k = slot_for no_run (run_of s.fr 1) no_run k (scan s.gr (s.fr + 2) s.starg k.end)

-- "load the argument value into general register gr, set gr to gr+1"
abbrev pub in_general : Scan → Copied → ScannedSlot
in_general s k = slot_for (run_of s.gr 1) no_run no_run k (scan (s.gr + 1) s.fr s.starg k.end)

-- OTHER: "passed in the parameter words of the caller's stack frame", 8 bytes each
abbrev pub in_other : Scan → Copied → ScannedSlot
in_other s k = slot_for no_run no_run (run_of s.starg 8) k (scan s.gr s.fr (s.starg + 8) k.end)

-- "If fr>6 .. go to OTHER", "If gr>6, go to OTHER"
unfoldable pub slot_by : Bool → Scan → Copied → ScannedSlot
slot_by true s k = pick (ltb 6 s.fr) (in_other s k) (in_floating s k)
slot_by false s k = pick (ltb 6 s.gr) (in_other s k) (in_general s k)

unfoldable pub slot_of : Scan → ValueType → ℕ → ScannedSlot
slot_of s t n = slot_by (double_or_float t) s (copy_at (copied t n) s.copies n)

-- ---- all of them

unfoldable pub slots_from : Convention → Scan → List ValueType → List Parameter
slots_from c s [] = []
slots_from c s (t ∷ ts) = (slot_of s t (size_of c t)).parameter ∷ slots_from c (slot_of s t (size_of c t)).next ts

unfoldable pub scanned_to : Convention → Scan → List ValueType → Scan
scanned_to c s [] = s
scanned_to c s (t ∷ ts) = scanned_to c (slot_of s t (size_of c t)).next ts

abbrev pub scanned_of : Convention → Scan → List ValueType → Scanned
scanned_of c s ts = record { parameters = table_with no_parameter (slots_from c s ts); end = scanned_to c s ts }

-- ---- the result

-- 01: "a hidden result address in r2, for struct or long double"
abbrev pub z_hidden : Option ValueType → Bool
z_hidden None = false
z_hidden (Some (ValueType.Integer k)) = false
z_hidden (Some (ValueType.Float FloatFormat.Single)) = false
z_hidden (Some (ValueType.Float FloatFormat.Double)) = false
z_hidden (Some (ValueType.Float FloatFormat.LongDouble)) = true
z_hidden (Some (ValueType.Struct s)) = true

-- table 11: "general register 2 (r2)", "floating point register 0 (f0)"
abbrev pub z_returned : Option ValueType → Returned
z_returned None = Returned.Nothing
z_returned (Some (ValueType.Integer k)) = Returned.General (run_of 2 1)
z_returned (Some (ValueType.Float FloatFormat.Single)) = Returned.Floating (run_of 0 1)
z_returned (Some (ValueType.Float FloatFormat.Double)) = Returned.Floating (run_of 0 1)
z_returned (Some (ValueType.Float FloatFormat.LongDouble)) = Returned.Hidden (run_of 2 1)
z_returned (Some (ValueType.Struct s)) = Returned.Hidden (run_of 2 1)
