-- Document 02, No. 3, of filling: the values of the earlier arguments go to the same places. proofs/Filled.antt proves it. Assumes nothing.
use Rattle.std.specs.Prelude.{ℕ, ◌≡◌, List, ◌++◌, length}
use Rattle.call_slots.specs.Buffers.{Slot}
use Rattle.call_slots.specs.Arguments.{plan_for}
use Rattle.call_fill.specs.Fill.{filled_slots}
use Rattle.call_appending.specs.Appending.{Appended}

-- the slots ys are xs and then others
pub record Begins (xs ys : List Slot) : Type 0 where
  pub rest : List Slot
  pub whole : ys ≡ xs ++ rest

-- every slot and copy that filling names for the shorter call, the hidden address's too, it names for the longer one, with the same bytes:
-- those of the appended arguments come after them
abbrev pub FillingStays : Type 0
FillingStays = (s u : List ℕ) → Appended s u → (values more : List ℕ) (base hidden : ℕ) → length values ≡ (plan_for s).values
    → Begins (filled_slots s values base hidden) (filled_slots u (values ++ more) base hidden)
