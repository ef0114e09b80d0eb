-- Document 01's example, without an ellipsis and with one, stepped through: each item's header, the arguments' types, and one
-- argument of the whole.
-- Assumes nothing.
use Rattle.sig_types.specs.Codes.{integer_code, float_code}
use Rattle.std.proofs.Common.{Err}
use Prim.Native.Nat.{ℕ}
use mathlib.Core.Path.{◌≡◌, refl}
use mathlib.Core.List.{List, [], ◌∷◌, map}
use Rattle.base_words.specs.Basics.{round_up}
use Rattle.base_conventions.specs.declared.Convention.{Convention}
use Rattle.base_conventions.specs.Numbers.{convention_code}
use Rattle.sig_types.specs.declared.IntegerKind.{IntegerKind}
use Rattle.sig_types.specs.declared.FloatFormat.{FloatFormat}
use Rattle.sig_types.specs.declared.ValueType.{ValueType}
use Rattle.sig_types.specs.Structs.{with_field, shape_of}
use Rattle.sig_types.specs.Trees.{type_of, fields_of, count_of}
use Rattle.sig_items.specs.declared.Refusal.{Refusal}
use Rattle.sig_items.specs.Read.{body_at, integer_at, float_of, float_at, sequence, sized_at, contents_at, item_by, struct_at, item_at}
use Rattle.sig_items.specs.Encode.{item, encode_tree, encode_trees}
use Rattle.sig_signatures.specs.Encode.{encode_result, ellipsis_item}
use Rattle.sig_signatures.specs.Read.{convention_at, result_in, result_at, ellipsis_at, arguments_in, arguments_at, after_ellipsis, after_result, after_convention, signature_of}
use Rattle.sig_stepping.specs.declared.Header.{Header}
use Rattle.sig_stepping.specs.Step.{end_in, body_in, header_in, body_start, body_end, type_in, header_found}
use Rattle.sig_reader.specs.Argument.{argument_in, argument_of, past_ellipsis, arguments_start, stepped_to, argument_found, argument_missing}

-- "PPC64, no result, arguments i32 and double: `01 0001 01 02 0000 03 0008 10 0001 04 11 0001 01`"
pub example : List ℕ
example = 0x01 ∷ 0 ∷ 1 ∷ 1 ∷ 0x02 ∷ 0 ∷ 0 ∷ 0x03 ∷ 0 ∷ 8 ∷ 0x10 ∷ 0 ∷ 1 ∷ 4 ∷ 0x11 ∷ 0 ∷ 1 ∷ 1 ∷ []

-- three items, at 0, 4 and 7, and none at 18
pub headers : map (λ (at : ℕ). header_in example at 18) (0 ∷ 4 ∷ 7 ∷ 18 ∷ [])
    ≡ header_found 0x01 4 ∷ header_found 0x02 7 ∷ header_found 0x03 18 ∷ Err Refusal.Truncated ∷ []
unfolding example end_in body_in header_in body_at
headers = refl

-- "arguments i32 and double", at 10 and 14
pub arguments : map (λ (index : ℕ). argument_of index (signature_of example)) (0 ∷ 1 ∷ 2 ∷ [])
    ≡ argument_found (ValueType.Integer IntegerKind.I32) 10 ∷ argument_found (ValueType.Float FloatFormat.Double) 14 ∷ argument_missing ∷ []
unfolding example body_at integer_code float_code integer_at float_of float_at sequence round_up with_field shape_of fields_of sized_at contents_at item_by struct_at item_at convention_code convention_at result_in result_at ellipsis_at arguments_in arguments_at after_ellipsis after_result after_convention signature_of item encode_tree encode_trees encode_result ellipsis_item type_of count_of argument_in
arguments = refl

-- the same by stepping
pub stepped : map (λ (k : ℕ). stepped_to Convention.Ppc64 example (arguments_start example) 18 k) (0 ∷ 1 ∷ [])
    ≡ argument_found (ValueType.Integer IntegerKind.I32) 10 ∷ argument_found (ValueType.Float FloatFormat.Double) 14 ∷ []
unfolding example end_in body_in body_start body_end type_in body_at integer_code float_code integer_at float_of float_at sequence round_up with_field shape_of fields_of sized_at contents_at item_by struct_at item_at type_of past_ellipsis arguments_start stepped_to
stepped = refl

-- The same with an ellipsis: each argument's item three bytes later.
pub with-ellipsis : List ℕ
with-ellipsis = 0x01 ∷ 0 ∷ 1 ∷ 1 ∷ 0x02 ∷ 0 ∷ 0 ∷ 0x04 ∷ 0 ∷ 0 ∷ 0x03 ∷ 0 ∷ 8 ∷ 0x10 ∷ 0 ∷ 1 ∷ 4 ∷ 0x11 ∷ 0 ∷ 1 ∷ 1 ∷ []

pub later-arguments : map (λ (index : ℕ). argument_of index (signature_of with-ellipsis)) (0 ∷ 1 ∷ 2 ∷ [])
    ≡ argument_found (ValueType.Integer IntegerKind.I32) 13 ∷ argument_found (ValueType.Float FloatFormat.Double) 17 ∷ argument_missing ∷ []
unfolding with-ellipsis body_at integer_code float_code integer_at float_of float_at sequence round_up with_field shape_of fields_of sized_at contents_at item_by struct_at item_at convention_code convention_at result_in result_at ellipsis_at arguments_in arguments_at after_ellipsis after_result after_convention signature_of item encode_tree encode_trees encode_result ellipsis_item type_of count_of argument_in
later-arguments = refl

pub later-stepped : map (λ (k : ℕ). stepped_to Convention.Ppc64 with-ellipsis (arguments_start with-ellipsis) 21 k) (0 ∷ 1 ∷ [])
    ≡ argument_found (ValueType.Integer IntegerKind.I32) 13 ∷ argument_found (ValueType.Float FloatFormat.Double) 17 ∷ []
unfolding with-ellipsis end_in body_in body_start body_end type_in body_at integer_code float_code integer_at float_of float_at sequence round_up with_field shape_of fields_of sized_at contents_at item_by struct_at item_at type_of past_ellipsis arguments_start stepped_to
later-stepped = refl
