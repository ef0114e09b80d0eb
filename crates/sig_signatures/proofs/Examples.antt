-- Worked readings, computed by the definitions: document 01's example, the empty signature, the depth at its limit and one past it, an ellipsis where it may stand and
-- where not. Assumes nothing.
use Rattle.sig_types.specs.Codes.{integer_code, float_code}
use Prim.Native.Nat.{ℕ, zero, suc}
use mathlib.Core.Path.{◌≡◌, refl}
use mathlib.Core.Bool.{true, false}
use mathlib.Core.List.{List, [], ◌∷◌, map}
use Rattle.base_words.specs.Basics.{round_up}
use Rattle.base_conventions.specs.declared.Convention.{Convention}
use Rattle.base_conventions.specs.Numbers.{convention_code}
use Rattle.sig_types.specs.declared.IntegerKind.{IntegerKind}
use Rattle.sig_types.specs.declared.FloatFormat.{FloatFormat}
use Rattle.sig_types.specs.Trees.{Tree, Trees, integer, float, struct, none, ◌▸◌, fields_of}
use Rattle.sig_items.specs.Refusals.{refusal_number}
use Rattle.sig_items.specs.Reading.{Reading, got, no}
use Rattle.sig_types.specs.Structs.{with_field, shape_of}
use Rattle.sig_items.specs.Read.{body_at, integer_at, float_of, float_at, sequence, sized_at, contents_at, item_by, struct_at, item_at}
use Rattle.sig_items.specs.Encode.{item, encode_tree}
use Rattle.sig_signatures.specs.Signature.{nothing, Signature}
use Rattle.sig_signatures.specs.Read.{convention_at, result_in, result_at, ellipsis_at, arguments_in, arguments_at, after_ellipsis, after_result, after_convention, signature_of}
use Rattle.sig_signatures.specs.Encode.{encode_result, ellipsis_item, encode}

-- "PPC64, no result, arguments i32 and double: `01 0001 01 02 0000 03 0008 10 0001 04 11 0001 01` (18 bytes, 5 items)"
pub example : List ℕ
example = 0x01 ∷ 0 ∷ 1 ∷ 1 ∷ 0x02 ∷ 0 ∷ 0 ∷ 0x03 ∷ 0 ∷ 8 ∷ 0x10 ∷ 0 ∷ 1 ∷ 4 ∷ 0x11 ∷ 0 ∷ 1 ∷ 1 ∷ []

pub example-read : signature_of example ≡
    got (record { convention = Convention.Ppc64; result = nothing; ellipsis = false; arguments = none ▸ integer IntegerKind.I32 ▸ float FloatFormat.Double }) 18 5
unfolding example body_at integer_code float_code integer_at float_of float_at sequence round_up with_field shape_of fields_of sized_at contents_at item_by struct_at item_at convention_code convention_at result_in result_at ellipsis_at arguments_in arguments_at after_ellipsis after_result after_convention signature_of
example-read = refl

-- the same with an ellipsis: 21 bytes, 6 items
pub with-ellipsis : List ℕ
with-ellipsis = 0x01 ∷ 0 ∷ 1 ∷ 1 ∷ 0x02 ∷ 0 ∷ 0 ∷ 0x04 ∷ 0 ∷ 0 ∷ 0x03 ∷ 0 ∷ 8 ∷ 0x10 ∷ 0 ∷ 1 ∷ 4 ∷ 0x11 ∷ 0 ∷ 1 ∷ 1 ∷ []

pub with-ellipsis-read : signature_of with-ellipsis ≡
    got (record { convention = Convention.Ppc64; result = nothing; ellipsis = true; arguments = none ▸ integer IntegerKind.I32 ▸ float FloatFormat.Double }) 21 6
unfolding with-ellipsis body_at integer_code float_code integer_at float_of float_at sequence round_up with_field shape_of fields_of sized_at contents_at item_by struct_at item_at convention_code convention_at result_in result_at ellipsis_at arguments_in arguments_at after_ellipsis after_result after_convention signature_of
with-ellipsis-read = refl

-- the answer in document 01's numbers: number, place and count of headers
answer : Reading Signature → List ℕ
answer (got g next n) = 0 ∷ 0 ∷ n ∷ []
answer (no f) = refusal_number f.reason ∷ f.place ∷ f.passed ∷ []

nested : ℕ → Tree
nested zero = integer IntegerKind.I8
nested (suc n) = struct (none ▸ nested n)

of : Trees → List ℕ
of ts = encode (record { convention = Convention.Z; result = nothing; ellipsis = false; arguments = ts })

several : ℕ → Tree → Trees
several zero t = none
several (suc n) t = several n t ▸ t

aix : Tree → List ℕ
aix t = encode (record { convention = Convention.Aix; result = nothing; ellipsis = false; arguments = none ▸ t })

-- each row: what is computed, and what it is to be
pub rows : List (List ℕ × List ℕ)
rows =
    -- "`refused 2 at 0 after 0`", as for empty input
    (answer (signature_of []), 2 ∷ 0 ∷ 0 ∷ [])
    -- "depth 8 yes, 9 gives 6"; the ninth struct's own header is not counted
    ∷ (answer (signature_of (of (none ▸ nested 8))), 0 ∷ 0 ∷ 12 ∷ [])
    ∷ (answer (signature_of (of (none ▸ nested 9))), 6 ∷ 34 ∷ 11 ∷ [])
    -- "for 8 the fields inside are" counted: three items and 33 fields
    ∷ (answer (signature_of (of (none ▸ struct (several 33 (integer IntegerKind.I64))))), 8 ∷ 10 ∷ 36 ∷ [])
    -- "bytes left over .. are no item": after the result's one type, and after the last item
    ∷ (answer (signature_of (1 ∷ 0 ∷ 1 ∷ 2 ∷ 2 ∷ 0 ∷ 5 ∷ 0x10 ∷ 0 ∷ 1 ∷ 4 ∷ 0x10 ∷ 3 ∷ 0 ∷ 0 ∷ [])), 4 ∷ 11 ∷ 3 ∷ [])
    ∷ (answer (signature_of (1 ∷ 0 ∷ 1 ∷ 2 ∷ 2 ∷ 0 ∷ 0 ∷ 3 ∷ 0 ∷ 0 ∷ 9 ∷ [])), 9 ∷ 10 ∷ 3 ∷ [])
    -- a second field whose length passes its struct's end
    ∷ (answer (signature_of (1 ∷ 0 ∷ 1 ∷ 2 ∷ 2 ∷ 0 ∷ 0 ∷ 3 ∷ 0 ∷ 10 ∷ 0x12 ∷ 0 ∷ 7 ∷ 0x10 ∷ 0 ∷ 1 ∷ 4 ∷ 0x10 ∷ 0 ∷ 1 ∷ [])), 2 ∷ 17 ∷ 5 ∷ [])
    -- AIX: a double by itself, "A long double, or a double inside a struct, gives new refusal 25 at that item, tested after 5"
    ∷ (answer (signature_of (aix (float FloatFormat.Double))), 0 ∷ 0 ∷ 4 ∷ [])
    ∷ (answer (signature_of (aix (float FloatFormat.LongDouble))), 25 ∷ 10 ∷ 3 ∷ [])
    ∷ (answer (signature_of (aix (struct (none ▸ float FloatFormat.Double)))), 25 ∷ 13 ∷ 4 ∷ [])
    ∷ (answer (signature_of (aix (struct (none ▸ float FloatFormat.LongDouble)))), 5 ∷ 13 ∷ 4 ∷ [])
    ∷ (answer (signature_of (aix (struct (none ▸ struct (none ▸ integer IntegerKind.I8 ▸ float FloatFormat.Double))))), 25 ∷ 20 ∷ 6 ∷ [])
    -- the others have both
    ∷ (answer (signature_of (of (none ▸ struct (none ▸ float FloatFormat.Double)))), 0 ∷ 0 ∷ 5 ∷ [])
    -- "an optional tag 0x04, empty body, between result and arguments": in every convention, after a result too; it counts as an item
    ∷ (answer (signature_of (1 ∷ 0 ∷ 1 ∷ 2 ∷ 2 ∷ 0 ∷ 0 ∷ 4 ∷ 0 ∷ 0 ∷ 3 ∷ 0 ∷ 0 ∷ [])), 0 ∷ 0 ∷ 4 ∷ [])
    ∷ (answer (signature_of (1 ∷ 0 ∷ 1 ∷ 3 ∷ 2 ∷ 0 ∷ 4 ∷ 0x10 ∷ 0 ∷ 1 ∷ 4 ∷ 4 ∷ 0 ∷ 0 ∷ 3 ∷ 0 ∷ 0 ∷ [])), 0 ∷ 0 ∷ 5 ∷ [])
    -- with a body 4 at its header; a second one 3; before the result 3; after the arguments 9
    ∷ (answer (signature_of (1 ∷ 0 ∷ 1 ∷ 1 ∷ 2 ∷ 0 ∷ 0 ∷ 4 ∷ 0 ∷ 1 ∷ 0 ∷ 3 ∷ 0 ∷ 0 ∷ [])), 4 ∷ 7 ∷ 2 ∷ [])
    ∷ (answer (signature_of (1 ∷ 0 ∷ 1 ∷ 1 ∷ 2 ∷ 0 ∷ 0 ∷ 4 ∷ 0 ∷ 0 ∷ 4 ∷ 0 ∷ 0 ∷ 3 ∷ 0 ∷ 0 ∷ [])), 3 ∷ 10 ∷ 3 ∷ [])
    ∷ (answer (signature_of (1 ∷ 0 ∷ 1 ∷ 1 ∷ 4 ∷ 0 ∷ 0 ∷ 2 ∷ 0 ∷ 0 ∷ 3 ∷ 0 ∷ 0 ∷ [])), 3 ∷ 4 ∷ 1 ∷ [])
    ∷ (answer (signature_of (1 ∷ 0 ∷ 1 ∷ 1 ∷ 2 ∷ 0 ∷ 0 ∷ 3 ∷ 0 ∷ 0 ∷ 4 ∷ 0 ∷ 0 ∷ [])), 9 ∷ 10 ∷ 3 ∷ [])
    -- its header cut, its body cut, and nothing after it
    ∷ (answer (signature_of (1 ∷ 0 ∷ 1 ∷ 1 ∷ 2 ∷ 0 ∷ 0 ∷ 4 ∷ 0 ∷ [])), 2 ∷ 7 ∷ 2 ∷ [])
    ∷ (answer (signature_of (1 ∷ 0 ∷ 1 ∷ 1 ∷ 2 ∷ 0 ∷ 0 ∷ 4 ∷ 0 ∷ 1 ∷ [])), 2 ∷ 7 ∷ 2 ∷ [])
    ∷ (answer (signature_of (1 ∷ 0 ∷ 1 ∷ 1 ∷ 2 ∷ 0 ∷ 0 ∷ 4 ∷ 0 ∷ 0 ∷ [])), 2 ∷ 10 ∷ 3 ∷ [])
    ∷ []

pub rows-hold : map (λ (r : List ℕ × List ℕ). r.0) rows ≡ map (λ (r : List ℕ × List ℕ). r.1) rows
unfolding rows answer nested several of aix item encode_tree encode_result ellipsis_item encode body_at integer_code float_code integer_at float_of float_at sequence round_up with_field shape_of fields_of sized_at contents_at item_by struct_at item_at convention_code convention_at result_in result_at ellipsis_at arguments_in arguments_at after_ellipsis after_result after_convention signature_of
rows-hold = refl
