-- The place of every type as a result, as documents 01 and 02 write it. `result_of` finds it by the step of a first argument, and the law
-- `result-written` says that this is the same. Assumes nothing.
use Rattle.std.specs.Prelude.{ℕ, List, [], ◌∷◌, ltb}
use Rattle.base_words.specs.Basics.{pick}
use Rattle.base_conventions.specs.declared.Convention.{Convention}
use Rattle.base_conventions.specs.Numbers.{word_bytes}
use Rattle.sig_types.specs.declared.FloatFormat.{FloatFormat}
use Rattle.sig_types.specs.declared.ValueType.{ValueType}
use Rattle.sig_types.specs.Sizes.{integer_size}
use Rattle.plan_places.specs.declared.Bank.{Bank}
use Rattle.plan_places.specs.declared.Place.{Place}
use Rattle.plan_places.specs.declared.ResultPlaces.{ResultPlaces}
use Rattle.plan_places.specs.Places.{register_place, places_of}

-- the places of a value, or those of the address that it is put at
pub data ReturnPlaces : Type 0 where
  value : List Place → ReturnPlaces
  address : List Place → ReturnPlaces

-- of a plan, by words of w bytes
abbrev pub returned : ℕ → ResultPlaces → ReturnPlaces
returned w ResultPlaces.Nothing = value []
returned w (ResultPlaces.Registers s) = value (places_of w s)
returned w (ResultPlaces.Hidden s) = address (places_of w s)

-- "Results: whole r3; single or double f1; long double f1, f2", and of a struct "its address is then a hidden first argument in r3"
abbrev pub ppc64_returned : ValueType → ReturnPlaces
ppc64_returned (ValueType.Integer k) = value (register_place Bank.General 3 ∷ [])
ppc64_returned (ValueType.Float FloatFormat.Single) = value (register_place Bank.Floating 1 ∷ [])
ppc64_returned (ValueType.Float FloatFormat.Double) = value (register_place Bank.Floating 1 ∷ [])
ppc64_returned (ValueType.Float FloatFormat.LongDouble) = value (register_place Bank.Floating 1 ∷ register_place Bank.Floating 2 ∷ [])
ppc64_returned (ValueType.Struct s) = address (register_place Bank.General 3 ∷ [])

abbrev pub returned_by : Convention → ValueType → ReturnPlaces
returned_by Convention.Ppc64 t = ppc64_returned t
-- 02, No. 12: "PPC64 with that rule", which is of arguments
returned_by Convention.Ppc64b t = ppc64_returned t
-- "Results: whole r2; single or double f0", and "a hidden result address in r2, for struct or long double"
returned_by Convention.Z (ValueType.Integer k) = value (register_place Bank.General 2 ∷ [])
returned_by Convention.Z (ValueType.Float FloatFormat.Single) = value (register_place Bank.Floating 0 ∷ [])
returned_by Convention.Z (ValueType.Float FloatFormat.Double) = value (register_place Bank.Floating 0 ∷ [])
returned_by Convention.Z (ValueType.Float FloatFormat.LongDouble) = address (register_place Bank.General 2 ∷ [])
returned_by Convention.Z (ValueType.Struct s) = address (register_place Bank.General 2 ∷ [])
-- 02, No. 1: "Results: r3, 64-bit wholes r3 and r4, floats f1. A struct result is passed by a hidden first word". No signature has a long double (25)
returned_by Convention.Aix (ValueType.Integer k) = value (register_place Bank.General 3 ∷ pick (ltb (word_bytes Convention.Aix) (integer_size Convention.Aix k)) (register_place Bank.General 4 ∷ []) [])
returned_by Convention.Aix (ValueType.Float FloatFormat.Single) = value (register_place Bank.Floating 1 ∷ [])
returned_by Convention.Aix (ValueType.Float FloatFormat.Double) = value (register_place Bank.Floating 1 ∷ [])
returned_by Convention.Aix (ValueType.Float FloatFormat.LongDouble) = value (register_place Bank.Floating 1 ∷ register_place Bank.Floating 2 ∷ [])
returned_by Convention.Aix (ValueType.Struct s) = address (register_place Bank.General 3 ∷ [])
