-- Refusal 7 is of arguments alone. A struct's fields are read by the same sequence as arguments, with the body's length for a limit, and
-- no item is shorter than its header: the limit is never met. proofs/Seven.antt proves it. Assumes nothing.
use Rattle.std.specs.Prelude.{ℕ, ◌≡◌, List}
use Rattle.base_conventions.specs.declared.Convention.{Convention}
use Rattle.sig_items.specs.Reading.{Reading}
use Rattle.sig_items.specs.Read.{struct_at, item_at}
use Rattle.sig_items.specs.Refusals.{reading_number}

-- another number than 7
abbrev pub Other : ℕ → Type 0
Other n = n ≡ 7 → ⊥

-- a reading that 7 does not refuse
abbrev pub NotSeven : {A : Type 0} → Reading A → Type 0
NotSeven x = Other (reading_number x)

-- no type item gives 7, and no struct's body, whatever the bytes, the place, the end and the depth left
abbrev pub ItemsNotSeven : Type 0
ItemsNotSeven = (c : Convention) (d : ℕ) (s : List ℕ) (e at : ℕ) → NotSeven (item_at c d s e at)

abbrev pub StructsNotSeven : Type 0
StructsNotSeven = (c : Convention) (d : ℕ) (s : List ℕ) (at b : ℕ) → NotSeven (struct_at c d s at b)
