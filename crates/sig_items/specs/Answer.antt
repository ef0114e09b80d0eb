-- The program's answer for each reading of a type item. Assumes nothing.
use Rattle.sig_items.specs.declared.Item.{Item}
use Rattle.sig_items.specs.declared.Fault.{Fault}
use Rattle.sig_types.specs.declared.Shape.{Shape}
use Rattle.std.specs.Prelude.{ℕ, ◌-◌, Ok, Err, Some, None, Result, Option}
use Rattle.base_conventions.specs.declared.Convention.{Convention}
use Rattle.sig_types.specs.declared.ValueType.{ValueType}
use Rattle.sig_types.specs.Trees.{Tree, type_of}
use Rattle.sig_items.specs.declared.Refusal.{Refusal}
use Rattle.sig_items.specs.Reading.{Reading, fault, got, no}

-- an item that was read
abbrev pub item_found : ValueType → ℕ → ℕ → Result Item Fault
item_found t next n = Ok (record { ty = t; next = next; items = n })

abbrev pub item_answer : Convention → Reading Tree → Result Item Fault
item_answer c (got t next n) = item_found (type_of c t) next n
item_answer c (no f) = Err f

-- of a struct, by its layout alone
abbrev pub closed_answer : ℕ → ℕ → ℕ → Option Shape → Result Item Fault
closed_answer at b n (Some s) = item_found (ValueType.Struct s) b n
closed_answer at b n None = Err (fault Refusal.StructTooLarge at (n - 1))
