-- Demand 2's places, said of the bytes that filling writes and reading looks at: distinct arguments never share a byte of a register,
-- slot or copy, filling changes nothing else, and a value read depends on its own places alone. proofs/Places.antt and
-- proofs/Alone.antt prove it. Assumes nothing.
use Rattle.std.specs.Prelude.{ℕ, ◌+◌, ◌-◌, ◌≤◌, ◌<◌, ◌≡◌, ◌⊎◌, true, List, [], ◌∷◌, length, get_or, take, drop}
use Rattle.plan_places.specs.declared.CallRules.{CallRules}
use Rattle.plan_places.specs.Step.{word_of}
use Rattle.plan_places.specs.Spots.{Spot, general, floating, area, copies}
use Rattle.call_slots.specs.Buffers.{Buffers, Slot, general_at, floating_at, bytes_at}
use Rattle.call_slots.specs.Placements.{Placement, slots_of, words_at, fpr_bytes_at, address_at, value_at}
use Rattle.call_slots.specs.Arguments.{arguments_of, rules_for}
use Rattle.call_fill.specs.Fill.{filled_slots, fill_buffers}
use Rattle.call_slots.specs.Answer.{call_done}

-- a byte of one of the three buffers
pub data Byte : Type 0 where
  in_image : ℕ → Byte
  in_area : ℕ → Byte
  in_copies : ℕ → Byte

-- its value, 0 where there is none
abbrev pub byte_at : Byte → Buffers → ℕ
byte_at (in_image i) b = get_or b.image i 0
byte_at (in_area i) b = get_or b.area i 0
byte_at (in_copies i) b = get_or b.copies i 0

-- i is one of n offsets from `at` on
abbrev pub Among : ℕ → ℕ → ℕ → Type 0
Among at n i = (at ≤ i) × (i < at + n)

-- the bytes from a spot on, n of them
abbrev pub CoversFrom : Spot → ℕ → Byte → Type 0
CoversFrom (general k) n (in_image i) = Among (general_at k) n i
CoversFrom (floating k) n (in_image i) = Among (floating_at k) n i
CoversFrom (area k) n (in_area i) = Among k n i
CoversFrom (copies k) n (in_copies i) = Among k n i
CoversFrom (general k) n (in_area i) = ⊥
CoversFrom (general k) n (in_copies i) = ⊥
CoversFrom (floating k) n (in_area i) = ⊥
CoversFrom (floating k) n (in_copies i) = ⊥
CoversFrom (area k) n (in_image i) = ⊥
CoversFrom (area k) n (in_copies i) = ⊥
CoversFrom (copies k) n (in_image i) = ⊥
CoversFrom (copies k) n (in_area i) = ⊥

-- a byte is written by one of several slots
unfoldable pub Touches : List Slot → Byte → Type 0
Touches [] x = ⊥
Touches (s ∷ ss) x = CoversFrom s.spot (length s.bytes) x ⊎ Touches ss x

-- the slots of each argument, in order
unfoldable pub slot_lists : CallRules → ℕ → List Placement → List ℕ → List (List Slot)
slot_lists r base [] v = []
slot_lists r base (p ∷ ps) v = slots_of r base p (take p.size v) ∷ slot_lists r base ps (drop p.size v)

-- those of argument i
abbrev pub slots_at : List ℕ → ℕ → List ℕ → ℕ → List Slot
slots_at s base values i = get_or (slot_lists (rules_for s) base (arguments_of s) values) i []

-- THE PLACES: distinct arguments never share a byte of a register, slot or copy, whatever the signature and the values
abbrev pub SlotsApart : Type 0
SlotsApart = (s : List ℕ) (base : ℕ) (values : List ℕ) (i j : ℕ) (x : Byte) → (i ≡ j → ⊥)
    → Touches (slots_at s base values i) x → Touches (slots_at s base values j) x → ⊥

-- "Filling changes only named slots and copies"
abbrev pub FillOnly : Type 0
FillOnly = (s values : List ℕ) (base hidden : ℕ) (b : Buffers) (x : Byte) → (Touches (filled_slots s values base hidden) x → ⊥)
    → byte_at x (fill_buffers s values base hidden call_done b) ≡ byte_at x b

-- ---- reading

-- two sets of buffers that agree on the places that an argument has: its FPR, its words in general registers and memory, its copy
pub record BuffersAgree (r : CallRules) (base : ℕ) (p : Placement) (b c : Buffers) : Type 0 where
  pub float : 0 < p.span.floating.count → fpr_bytes_at p.span b ≡ fpr_bytes_at p.span c
  pub words : words_at (word_of r) p.span b ≡ words_at (word_of r) p.span c
  pub copy : p.span.indirect ≡ true
      → bytes_at (copies (address_at (word_of r) p.span b - base)) p.size b ≡ bytes_at (copies (address_at (word_of r) p.span b - base)) p.size c

-- the value that is read depends on these bytes alone
abbrev pub ReadOwn : Type 0
ReadOwn = (r : CallRules) (base : ℕ) (p : Placement) (b c : Buffers) → BuffersAgree r base p b c → value_at r base p b ≡ value_at r base p c
