-- Stepping through the items of a part of a signature, by the definitions that the whole reading is made of: `body_at` and
-- `item_at` of crates/sig_items. The list s is the signature, `at` the place of an item's header and e the part's end.
-- Assumes nothing.
use Rattle.sig_items.specs.declared.Item.{Item}
use Rattle.sig_items.specs.declared.Fault.{Fault}
use Rattle.std.specs.Prelude.{ℕ, ◌+◌, ◌-◌, List, length, get_or, ltb, Ok, Err, Result}
use Rattle.base_words.specs.Basics.{pick}
use Rattle.base_conventions.specs.declared.Convention.{Convention}
use Rattle.sig_types.specs.Trees.{Tree}
use Rattle.sig_types.specs.Sizes.{max_depth}
use Rattle.sig_items.specs.declared.Refusal.{Refusal}
use Rattle.sig_items.specs.Reading.{Reading, fault, no}
use Rattle.sig_items.specs.Read.{body_at, item_at}
use Rattle.sig_signatures.specs.Limits.{max_length}
use Rattle.sig_stepping.specs.declared.Header.{Header}

-- no part goes past the bytes
unfoldable pub end_in : List ℕ → ℕ → ℕ
end_in s e = pick (ltb (length s) e) (length s) e

-- how many bytes are left: none where the place is past the end
unfoldable pub left_at : List ℕ → ℕ → ℕ → ℕ
left_at s at e = end_in s e - at

-- the header of an item with any tag; "1 first"
unfoldable pub body_in : List ℕ → ℕ → ℕ → Result ℕ Refusal
body_in s at e = pick (ltb max_length (length s)) (Err Refusal.TooLong) (body_at s 0x00 0xff (end_in s e) at)

-- a header that was found
abbrev pub header_found : ℕ → ℕ → Result Header Refusal
header_found tag b = Ok (record { tag = tag; end = b })

abbrev pub header_by : ℕ → Result ℕ Refusal → Result Header Refusal
header_by tag (Ok b) = header_found tag b
header_by tag (Err r) = Err r

unfoldable pub header_in : List ℕ → ℕ → ℕ → Result Header Refusal
header_in s at e = header_by (get_or s at 0) (body_in s at e)

-- where the item's body starts and ends; a refused header has none, and a reader stays where it is

abbrev pub start_by : ℕ → Result ℕ Refusal → ℕ
start_by at (Ok b) = at + 3
start_by at (Err r) = at

unfoldable pub body_start : List ℕ → ℕ → ℕ → ℕ
body_start s at e = start_by at (body_in s at e)

abbrev pub end_by : ℕ → Result ℕ Refusal → ℕ
end_by at (Ok b) = b
end_by at (Err r) = at

unfoldable pub body_end : List ℕ → ℕ → ℕ → ℕ
body_end s at e = end_by at (body_in s at e)

-- a type item outside any struct; "1 first"
unfoldable pub type_in : Convention → List ℕ → ℕ → ℕ → Reading Tree
type_in c s at e = pick (ltb max_length (length s)) (no (fault Refusal.TooLong 0 0)) (item_at c max_depth s (end_in s e) at)

-- the place after a type item; a reader stays where it is after a refusal
abbrev pub place_after : Result Item Fault → ℕ → ℕ
place_after (Ok i) at = i.next
place_after (Err f) at = at
