-- Calls with an ellipsis: figure 3-18, func(c, ff, d, ld, s, gg, t, e, hh), by each edition, and arguments that stand in registers of both banks and
-- in memory. Each computes. Assumes nothing.
use Rattle.std.proofs.Common.{None}
use mathlib.Core.Path.{◌≡◌, refl}
use mathlib.Core.Bool.{true}
use mathlib.Core.List.{List, [], ◌∷◌, map}
use Prim.Native.Nat.{ℕ}
use Rattle.base_conventions.specs.declared.Convention.{Convention}
use Rattle.base_conventions.specs.Numbers.{word_bytes}
use Rattle.sig_types.specs.declared.Equivalent.{Equivalent}
use Rattle.sig_types.specs.declared.FloatFormat.{FloatFormat}
use Rattle.sig_types.specs.declared.IntegerKind.{IntegerKind}
use Rattle.sig_types.specs.declared.ValueType.{ValueType}
use Rattle.plan_places.specs.declared.Bank.{Bank}
use Rattle.plan_places.specs.declared.Place.{Place}
use Rattle.plan_places.specs.Power.{words, fprs, share_of, power_share}
use Rattle.plan_places.specs.ZSeries.{z_class, z_span_of, z_next_of}
use Rattle.plan_places.specs.Step.{rules_of, with_ellipsis, span_of, next_of, fresh_cursor, start_of}
use Rattle.plan_places.specs.Places.{up_from, register_place, registers_of, memory_of, places_of}
use Rattle.plan_plans.specs.Plan.{spans_of, start_in}

abbrev int : ValueType
int = ValueType.Integer IntegerKind.I32

abbrev single : ValueType
single = ValueType.Float FloatFormat.Single

abbrev double : ValueType
double = ValueType.Float FloatFormat.Double

abbrev quad : ValueType
quad = ValueType.Float FloatFormat.LongDouble

abbrev sparm : ValueType
sparm = ValueType.Struct (record { size = 16; align = 8; equivalent = Equivalent.Nothing })

abbrev figure : List ValueType
figure = int ∷ double ∷ int ∷ quad ∷ sparm ∷ double ∷ sparm ∷ int ∷ double ∷ []

abbrev r : ℕ → Place
r n = register_place Bank.General n

abbrev f : ℕ → Place
f n = register_place Bank.Floating n

abbrev at : ℕ → Place
at n = Place.Memory n

-- the places of a plan's spans, without a result
abbrev placed : Convention → List ValueType → List (List Place)
placed c ts = map (places_of (word_bytes c)) (spans_of c (with_ellipsis true (rules_of c)) (start_in c None) ts)

-- 02, No. 5: "in its FPR, and as well in its GPR while w < 8 and in memory from w 8 on"
pub earlier : placed Convention.Ppc64 figure
    ≡ (r 3 ∷ []) ∷ (f 1 ∷ r 4 ∷ []) ∷ (r 5 ∷ []) ∷ (r 6 ∷ r 7 ∷ []) ∷ (r 8 ∷ r 9 ∷ []) ∷ (f 2 ∷ r 10 ∷ []) ∷ (at 64 ∷ at 72 ∷ []) ∷ (at 80 ∷ []) ∷ (f 3 ∷ at 88 ∷ []) ∷ []
unfolding spans_of span_of next_of with_ellipsis start_of fresh_cursor power_share share_of fprs words places_of registers_of memory_of up_from
earlier = refl

-- No. 12: ld is in f2 and f3, and as well in r6 and r7
pub later : placed Convention.Ppc64b figure
    ≡ (r 3 ∷ []) ∷ (f 1 ∷ r 4 ∷ []) ∷ (r 5 ∷ []) ∷ (f 2 ∷ f 3 ∷ r 6 ∷ r 7 ∷ []) ∷ (r 8 ∷ r 9 ∷ []) ∷ (f 4 ∷ r 10 ∷ []) ∷ (at 64 ∷ at 72 ∷ []) ∷ (at 80 ∷ []) ∷ (f 5 ∷ at 88 ∷ []) ∷ []
unfolding spans_of span_of next_of with_ellipsis start_of fresh_cursor power_share share_of fprs words places_of registers_of memory_of up_from
later = refl

-- No. 12: "With an ellipsis each doubleword also goes in its GPR while its own w is below 8, then in memory": a long double over f1, f2, r10 and memory
pub straddling : placed Convention.Ppc64b (sparm ∷ sparm ∷ sparm ∷ int ∷ quad ∷ [])
    ≡ (r 3 ∷ r 4 ∷ []) ∷ (r 5 ∷ r 6 ∷ []) ∷ (r 7 ∷ r 8 ∷ []) ∷ (r 9 ∷ []) ∷ (f 1 ∷ f 2 ∷ r 10 ∷ at 64 ∷ []) ∷ []
unfolding spans_of span_of next_of with_ellipsis start_of fresh_cursor power_share share_of fprs words places_of registers_of memory_of up_from
straddling = refl

-- "AIX does the same by words": a single in one GPR, and a double over f2, r10 and memory
pub words-of-four : placed Convention.Aix (sparm ∷ int ∷ single ∷ int ∷ double ∷ [])
    ≡ (r 3 ∷ r 4 ∷ r 5 ∷ r 6 ∷ []) ∷ (r 7 ∷ []) ∷ (f 1 ∷ r 8 ∷ []) ∷ (r 9 ∷ []) ∷ (f 2 ∷ r 10 ∷ at 32 ∷ []) ∷ []
unfolding spans_of span_of next_of with_ellipsis start_of fresh_cursor power_share share_of fprs words places_of registers_of memory_of up_from
words-of-four = refl

-- where no FPR is left: the fourteenth double is in memory alone, as its word is past r10
abbrev fourteen : List ValueType
fourteen = double ∷ double ∷ double ∷ double ∷ double ∷ double ∷ double ∷ double ∷ double ∷ double ∷ double ∷ double ∷ double ∷ double ∷ []

pub none_left : placed Convention.Ppc64 fourteen
    ≡ (f 1 ∷ r 3 ∷ []) ∷ (f 2 ∷ r 4 ∷ []) ∷ (f 3 ∷ r 5 ∷ []) ∷ (f 4 ∷ r 6 ∷ []) ∷ (f 5 ∷ r 7 ∷ []) ∷ (f 6 ∷ r 8 ∷ []) ∷ (f 7 ∷ r 9 ∷ []) ∷ (f 8 ∷ r 10 ∷ []) ∷ (f 9 ∷ at 64 ∷ []) ∷ (f 10 ∷ at 72 ∷ []) ∷ (f 11 ∷ at 80 ∷ []) ∷ (f 12 ∷ at 88 ∷ []) ∷ (f 13 ∷ at 96 ∷ []) ∷ (at 104 ∷ []) ∷ []
unfolding spans_of span_of next_of with_ellipsis start_of fresh_cursor power_share share_of fprs words places_of registers_of memory_of up_from
none_left = refl

-- "Z's places stay"
pub on-z : placed Convention.Z (int ∷ double ∷ single ∷ [])
    ≡ (r 2 ∷ []) ∷ (f 0 ∷ []) ∷ (f 2 ∷ []) ∷ []
unfolding spans_of span_of next_of with_ellipsis start_of fresh_cursor z_class z_span_of z_next_of places_of registers_of memory_of up_from
on-z = refl
