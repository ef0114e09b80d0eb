-- Whole stored plans, worked out on the definitions: two bytes in the place of a signature, and a plan. Each computes. Assumes nothing.
use Rattle.std.proofs.Common.{Some}
use mathlib.Core.Path.{◌≡◌, refl}
use mathlib.Core.Bool.{true, false}
use mathlib.Core.List.{List, [], ◌∷◌}
use Prim.Native.Nat.{ℕ}
use Rattle.base_words.specs.Basics.{round_up}
use Rattle.base_conventions.specs.declared.Convention.{Convention}
use Rattle.sig_types.specs.declared.Equivalent.{Equivalent}
use Rattle.sig_types.specs.declared.FloatFormat.{FloatFormat}
use Rattle.sig_types.specs.declared.IntegerKind.{IntegerKind}
use Rattle.sig_types.specs.declared.ValueType.{ValueType}
use Rattle.sig_items.specs.Encode.{item}
use Rattle.plan_places.specs.Power.{words, fprs, share_of, power_share}
use Rattle.plan_places.specs.ZSeries.{z_class, z_span_of, z_next_of}
use Rattle.plan_places.specs.Step.{with_ellipsis, span_of, next_of, fresh_cursor, start_of, hidden_for, result_of}
use Rattle.plan_plans.specs.Plan.{spans_of, table_of, plan_in}
use Rattle.plan_stored_items.specs.Places.{place_bytes, places_bytes, places_from, places_in, bytes_in_area, listed_from, floating_run, general_run, memory_run, copy_run, direct_places, argument_places, argument_item, result_item}
use Rattle.plan_stored.specs.Stored.{argument_items, plan_bytes}

abbrev int : ValueType
int = ValueType.Integer IntegerKind.I32

abbrev double : ValueType
double = ValueType.Float FloatFormat.Double

abbrev quad : ValueType
quad = ValueType.Float FloatFormat.LongDouble

abbrev pair : ValueType
pair = ValueType.Struct (record { size = 16; align = 8; equivalent = Equivalent.Nothing })

abbrev signature : List ℕ
signature = 0xaa ∷ 0xbb ∷ []

-- Z, a long double's result: hidden r2; a struct's copy at 0, with its address in r3; a double in f0
pub on-z : plan_bytes signature (plan_in 0 Convention.Z false (Some quad) (pair ∷ double ∷ []))
    ≡ 0x20 ∷ 0 ∷ 2 ∷ 0xaa ∷ 0xbb
    ∷ 0x21 ∷ 0 ∷ 10 ∷ 0 ∷ 0 ∷ 3 ∷ 0 ∷ 0 ∷ 2 ∷ 0 ∷ 0 ∷ 0 ∷ 0
    ∷ 0x21 ∷ 0 ∷ 5 ∷ 0 ∷ 1 ∷ 0 ∷ 0 ∷ 0
    ∷ 0x22 ∷ 0 ∷ 5 ∷ 3 ∷ 0 ∷ 2 ∷ 0 ∷ 0 ∷ []
unfolding round_up plan_bytes plan_in table_of spans_of span_of next_of with_ellipsis start_of fresh_cursor hidden_for result_of z_class z_span_of z_next_of argument_items argument_item argument_places direct_places result_item item places_bytes place_bytes places_from places_in floating_run general_run memory_run copy_run bytes_in_area listed_from
on-z = refl

-- AIX with an ellipsis, a struct's result: hidden r3; a struct in r4 to r7, an int in r8 and one in r9; a double in f1, in r10 and in memory
pub on-aix : plan_bytes signature (plan_in 0 Convention.Aix true (Some pair) (pair ∷ int ∷ int ∷ double ∷ []))
    ≡ 0x20 ∷ 0 ∷ 2 ∷ 0xaa ∷ 0xbb
    ∷ 0x21 ∷ 0 ∷ 20 ∷ 0 ∷ 0 ∷ 4 ∷ 0 ∷ 4 ∷ 0 ∷ 0 ∷ 5 ∷ 0 ∷ 8 ∷ 0 ∷ 0 ∷ 6 ∷ 0 ∷ 12 ∷ 0 ∷ 0 ∷ 7 ∷ 0 ∷ 16
    ∷ 0x21 ∷ 0 ∷ 5 ∷ 0 ∷ 0 ∷ 8 ∷ 0 ∷ 20
    ∷ 0x21 ∷ 0 ∷ 5 ∷ 0 ∷ 0 ∷ 9 ∷ 0 ∷ 24
    ∷ 0x21 ∷ 0 ∷ 15 ∷ 0 ∷ 1 ∷ 1 ∷ 0 ∷ 28 ∷ 0 ∷ 0 ∷ 10 ∷ 0 ∷ 28 ∷ 1 ∷ 0 ∷ 0 ∷ 0 ∷ 32
    ∷ 0x22 ∷ 0 ∷ 5 ∷ 3 ∷ 0 ∷ 3 ∷ 0 ∷ 0 ∷ []
unfolding plan_bytes plan_in table_of spans_of span_of next_of with_ellipsis start_of fresh_cursor hidden_for result_of words fprs share_of power_share argument_items argument_item argument_places direct_places result_item item places_bytes place_bytes places_from places_in floating_run general_run memory_run copy_run bytes_in_area listed_from
on-aix = refl
