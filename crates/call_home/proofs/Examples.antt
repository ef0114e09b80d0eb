-- Worked examples of home, for a reader to compare with document 01, "What stands in a slot". Each computes. Assumes nothing.
use mathlib.Core.Path.{◌≡◌, refl}
use mathlib.Core.List.{List, [], ◌∷◌, ◌++◌}
use Prim.Native.Nat.{ℕ}
use lib.Count.{count_leading_zeros}
use lib.ListN.{replicate}
use Rattle.base_words.specs.Splice.{overlay, splice}
use Rattle.base_words.specs.Numbers.{bytes_of, value_of, zero_extended}
use Rattle.base_ieee.specs.Format.{join, split}
use Rattle.base_ieee.specs.Widening.{widen, widen_fields}
use Rattle.base_ieee.specs.Narrowing.{narrow, candidate, candidate_fields}
use Rattle.sig_types.specs.declared.FloatFormat.{FloatFormat}
use Rattle.sig_types.specs.declared.IntegerKind.{IntegerKind}
use Rattle.sig_types.specs.declared.ValueType.{ValueType}
use Rattle.plan_places.specs.Values.{cursor}
use Rattle.plan_places.specs.Power.{words, fprs, share_of, power_share}
use Rattle.plan_places.specs.Step.{ppc64_calls, span_of}
use Rattle.call_registers.specs.Registers.{gather}
use Rattle.call_slots.specs.Forms.{starts_at_head, extended, home_bytes, float_value}
use Rattle.call_slots.specs.Placements.{Placement, placement}
use Rattle.call_home_slot.specs.Homes.{homed_bytes}
use Rattle.call_home.specs.Home.{homed}

-- a single and an i8 after a hidden address: f1 and r5, at 8 and 16
pair : List Placement
pair =
    placement (ValueType.Float FloatFormat.Single) 4 (span_of ppc64_calls (cursor 4 1 8 0) (ValueType.Float FloatFormat.Single) 4)
    ∷ placement (ValueType.Integer IntegerKind.I8) 1 (span_of ppc64_calls (cursor 5 2 16 0) (ValueType.Integer IntegerKind.I8) 1)
    ∷ []

-- f1 holds the double 1.0, r5 a doubleword of any bytes
image : List ℕ
image =
    replicate 40 9 ++ (1 ∷ 2 ∷ 3 ∷ 4 ∷ 5 ∷ 6 ∷ 7 ∷ 8 ∷ []) ++ replicate 216 9 ++ (0x3f ∷ 0xf0 ∷ 0 ∷ 0 ∷ 0 ∷ 0 ∷ 0 ∷ 0 ∷ [])

-- the first doubleword, the hidden address's, stays, and so does what follows the arguments
pair-homed : homed ppc64_calls pair image (replicate 28 7)
    ≡ 7 ∷ 7 ∷ 7 ∷ 7 ∷ 7 ∷ 7 ∷ 7 ∷ 7 ∷ 0 ∷ 0 ∷ 0 ∷ 0 ∷ 0x3f ∷ 0x80 ∷ 0 ∷ 0 ∷ 1 ∷ 2 ∷ 3 ∷ 4 ∷ 5 ∷ 6 ∷ 7 ∷ 8 ∷ 7 ∷ 7 ∷ 7 ∷ 7 ∷ []
unfolding homed pair image homed_bytes gather span_of power_share share_of fprs words home_bytes float_value starts_at_head extended zero_extended bytes_of value_of splice overlay narrow candidate candidate_fields widen widen_fields join split count_leading_zeros
pair-homed = refl
