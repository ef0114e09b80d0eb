-- One argument of a signature: its type, the place of its item by the encoder, and 29 there. Below it, the same by stepping.
-- Assumes nothing.
use Rattle.sig_reader.specs.declared.ArgumentItem.{ArgumentItem}
use Rattle.std.specs.Prelude.{ℕ, zero, suc, ◌+◌, Bool, List, length, get_or, eqb, Ok, Err, Result, Some, None, Option}
use Rattle.base_words.specs.Basics.{pick}
use Rattle.base_conventions.specs.declared.Convention.{Convention}
use Rattle.sig_types.specs.declared.ValueType.{ValueType}
use Rattle.sig_types.specs.Trees.{Tree, Trees, none, ◌▸◌, type_of, count_of}
use Rattle.sig_items.specs.declared.Refusal.{Refusal}
use Rattle.sig_items.specs.declared.Fault.{Fault}
use Rattle.sig_items.specs.Reading.{Reading, fault, got, no}
use Rattle.sig_items.specs.Encode.{encode_trees}
use Rattle.sig_signatures.specs.Signature.{ResultTree, Signature}
use Rattle.sig_signatures.specs.Encode.{encode_result, ellipsis_item}
use Rattle.sig_stepping.specs.Step.{body_start, body_end, type_in}

-- an argument that is there, and that there is none

abbrev pub argument_found : ValueType → ℕ → Result (Option ArgumentItem) Fault
argument_found t place = Ok (Some (record { ty = t; place = place }))

abbrev pub argument_missing : Result (Option ArgumentItem) Fault
argument_missing = Ok None

-- Number `index`, counted from 0, of the types ts, whose items stand one after the other from `start` on.
unfoldable pub argument_in : Convention → ℕ → ℕ → Trees → Result (Option ArgumentItem) Fault
argument_in c start index none = argument_missing
argument_in c start index (ts ▸ t) =
    pick (eqb index (count_of ts)) (argument_found (type_of c t) (start + length (encode_trees ts))) (argument_in c start index ts)

-- where the arguments' first item stands: the convention's item is 4 bytes, the result's and the arguments' have a header of 3
-- each, and an ellipsis's item stands between the two
abbrev pub arguments_place : ResultTree → Bool → ℕ
arguments_place r v = 10 + length (encode_result r) + length (ellipsis_item v)

-- of a whole reading
abbrev pub argument_of : ℕ → Reading Signature → Result (Option ArgumentItem) Fault
argument_of index (got g next n) = argument_in g.convention (arguments_place g.result g.ellipsis) index g.arguments
argument_of index (no f) = Err f

-- the place of an argument's item
abbrev pub item_in : Result (Option ArgumentItem) Fault → ℕ
item_in (Ok (Some a)) = a.place
item_in (Ok None) = 0
item_in (Err f) = 0

-- 02, No. 12: "give new refusal 29 at that argument's header, after reading": of argument number i, counted from 0, of what was read. It has count 0,
-- as every refusal after reading
abbrev pub unclear_fault : ℕ → Reading Signature → Fault
unclear_fault i x = fault Refusal.UnclearPlace (item_in (argument_of i x)) 0

-- past an ellipsis's item, where its tag stands
unfoldable pub past_ellipsis : List ℕ → ℕ → ℕ
past_ellipsis s at = pick (eqb (get_or s at 0) 0x04) (body_end s at (length s)) at

-- the arguments' first item: past two items and the ellipsis, and into the last
unfoldable pub arguments_start : List ℕ → ℕ
arguments_start s = body_start s (past_ellipsis s (body_end s (body_end s 0 (length s)) (length s))) (length s)

abbrev pub onward : Reading Tree → (ℕ → Result (Option ArgumentItem) Fault) → Result (Option ArgumentItem) Fault
onward (got t next n) g = g next
onward (no f) g = Err f

abbrev pub here : Convention → ℕ → Reading Tree → Result (Option ArgumentItem) Fault
here c at (got t next n) = argument_found (type_of c t) at
here c at (no f) = Err f

-- the type item after k others, from `at` on; the first refusal on the way is the answer
unfoldable pub stepped_to : Convention → List ℕ → ℕ → ℕ → ℕ → Result (Option ArgumentItem) Fault
stepped_to c s at e zero = here c at (type_in c s at e)
stepped_to c s at e (suc k) = onward (type_in c s at e) (λ next. stepped_to c s next e k)
