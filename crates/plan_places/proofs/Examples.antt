-- Worked examples of the definitions: the results that documents 01 and 02 list, and Z's classes. Each computes. Assumes nothing.
use mathlib.Core.Path.{◌≡◌, refl}
use mathlib.Core.List.{List, [], ◌∷◌, map}
use Prim.Native.Nat.{ℕ}
use Rattle.base_conventions.specs.declared.Convention.{Convention}
use Rattle.base_conventions.specs.Numbers.{word_bytes}
use Rattle.sig_types.specs.declared.Equivalent.{Equivalent}
use Rattle.sig_types.specs.declared.FloatFormat.{FloatFormat}
use Rattle.sig_types.specs.declared.IntegerKind.{IntegerKind}
use Rattle.sig_types.specs.declared.ValueType.{ValueType}
use Rattle.sig_types.specs.Sizes.{size_of}
use Rattle.plan_places.specs.declared.Bank.{Bank}
use Rattle.plan_places.specs.declared.Place.{Place}
use Rattle.plan_places.specs.declared.ResultPlaces.{ResultPlaces}
use Rattle.plan_places.specs.declared.ZClass.{ZClass}
use Rattle.plan_places.specs.Power.{words, fprs, share_of, power_share}
use Rattle.plan_places.specs.ZSeries.{z_class, z_span_of}
use Rattle.plan_places.specs.Step.{rules_of, span_of, fresh_cursor, returning, hidden_for, result_of}
use Rattle.plan_places.specs.Places.{up_from, register_place, registers_of, memory_of, places_of}

abbrev int : ValueType
int = ValueType.Integer IntegerKind.I32

abbrev long : ValueType
long = ValueType.Integer IntegerKind.I64

abbrev single : ValueType
single = ValueType.Float FloatFormat.Single

abbrev double : ValueType
double = ValueType.Float FloatFormat.Double

abbrev quad : ValueType
quad = ValueType.Float FloatFormat.LongDouble

abbrev struct_of : ℕ → Equivalent → ValueType
struct_of n e = ValueType.Struct (record { size = n; align = 1; equivalent = e })

abbrev r : ℕ → Place
r n = register_place Bank.General n

abbrev f : ℕ → Place
f n = register_place Bank.Floating n

-- a result's places, and whether they hold its address
pub data Shown : Type 0 where
  nothing : Shown
  value : List Place → Shown
  address : List Place → Shown

abbrev shown : ℕ → ResultPlaces → Shown
shown w ResultPlaces.Nothing = nothing
shown w (ResultPlaces.Registers s) = value (places_of w s)
shown w (ResultPlaces.Hidden s) = address (places_of w s)

abbrev result_in : Convention → ValueType → Shown
result_in c t = shown (word_bytes c) (result_of (rules_of c) t (size_of c t))

-- "whole r3; single or double f1; long double f1, f2"; a struct's address in r3
pub power-results : map (result_in Convention.Ppc64) (int ∷ single ∷ double ∷ quad ∷ struct_of 3 Equivalent.Nothing ∷ [])
    ≡ value (r 3 ∷ []) ∷ value (f 1 ∷ []) ∷ value (f 1 ∷ []) ∷ value (f 1 ∷ f 2 ∷ []) ∷ address (r 3 ∷ []) ∷ []
unfolding result_of hidden_for returning span_of fresh_cursor words fprs share_of power_share places_of registers_of memory_of up_from
power-results = refl

-- "whole r2; single or double f0"; a long double's and a struct's address in r2
pub z-results : map (result_in Convention.Z) (int ∷ single ∷ double ∷ quad ∷ struct_of 4 Equivalent.Single ∷ [])
    ≡ value (r 2 ∷ []) ∷ value (f 0 ∷ []) ∷ value (f 0 ∷ []) ∷ address (r 2 ∷ []) ∷ address (r 2 ∷ []) ∷ []
unfolding result_of hidden_for returning span_of fresh_cursor z_class z_span_of places_of registers_of memory_of up_from
z-results = refl

-- "r3, 64-bit wholes r3 and r4, floats f1"; a struct's address in r3
pub aix-results : map (result_in Convention.Aix) (int ∷ long ∷ single ∷ double ∷ struct_of 3 Equivalent.Nothing ∷ [])
    ≡ value (r 3 ∷ []) ∷ value (r 3 ∷ r 4 ∷ []) ∷ value (f 1 ∷ []) ∷ value (f 1 ∷ []) ∷ address (r 3 ∷ []) ∷ []
unfolding result_of hidden_for returning span_of fresh_cursor words fprs share_of power_share places_of registers_of memory_of up_from
aix-results = refl

abbrev class_of : ℕ → ZClass
class_of n = z_class (struct_of n Equivalent.Nothing) n

-- "Structs of 1, 2, 4 or 8 bytes go by value"
pub struct-classes : map class_of (1 ∷ 2 ∷ 3 ∷ 4 ∷ 5 ∷ 6 ∷ 7 ∷ 8 ∷ 9 ∷ 16 ∷ [])
    ≡ ZClass.Simple ∷ ZClass.Simple ∷ ZClass.Reference ∷ ZClass.Simple ∷ ZClass.Reference ∷ ZClass.Reference ∷ ZClass.Reference ∷ ZClass.Simple ∷ ZClass.Reference ∷ ZClass.Reference ∷ []
unfolding z_class
struct-classes = refl

-- a struct of one double goes as a double, whatever its size
pub equivalent-class : z_class (struct_of 8 Equivalent.Double) 8 ≡ ZClass.Float
unfolding z_class
equivalent-class = refl
