-- An argument with its place: its type, its size and its span of the plan; the slots that it is put in, and its value read back.
-- Document 01, "What stands in a slot". Assumes nothing.
use Rattle.std.specs.Prelude.{ℕ, ◌+◌, ◌-◌, ◌*◌, List, [], ◌∷◌, ◌++◌, take, drop, ltb}
use Rattle.base_words.specs.Basics.{pick}
use Rattle.base_words.specs.Splice.{part}
use Rattle.base_words.specs.Numbers.{bytes_of, value_of}
use Rattle.base_conventions.specs.declared.Convention.{Convention}
use Rattle.sig_types.specs.declared.ValueType.{ValueType}
use Rattle.sig_types.specs.Sizes.{size_of}
use Rattle.plan_places.specs.declared.CallRules.{CallRules}
use Rattle.plan_places.specs.declared.Span.{Span}
use Rattle.plan_places.specs.declared.ResultPlaces.{ResultPlaces}
use Rattle.plan_places.specs.Step.{word_of}
use Rattle.plan_places.specs.Spots.{general, floating, area, copies}
use Rattle.call_slots.specs.Buffers.{Buffers, Slot, slot, bytes_at}
use Rattle.call_registers.specs.Registers.{spread, gather}
use Rattle.call_slots.specs.Forms.{home_bytes, float_bytes, float_value, own_start}

pub record Placement : Type 0 where
  pub ty : ValueType
  pub size : ℕ
  pub span : Span

abbrev pub placement : ValueType → ℕ → Span → Placement
placement t n s = record { ty = t; size = n; span = s }

-- the arguments in order, each type with its span
unfoldable pub placements : Convention → List ValueType → List Span → List Placement
placements c [] ss = []
placements c (t ∷ ts) [] = []
placements c (t ∷ ts) (s ∷ ss) = placement t (size_of c t) s ∷ placements c ts ss

-- ---- the slots of an argument

-- what stands in an argument's general registers and memory, word after word: the value, or the address of its copy, which is its
-- offset in the copy buffer from the buffer's base on
unfoldable pub standing : CallRules → ℕ → Placement → List ℕ → List ℕ
standing r base p v =
    pick p.span.indirect (bytes_of (word_of r) (base + p.span.copy.start)) (home_bytes r p.ty p.size v)

-- "by pointer to a copy": the copy is the value, byte for byte
abbrev pub copy_bytes : Placement → List ℕ → List ℕ
copy_bytes p v = pick p.span.indirect v []

-- the floating registers, the general registers, the rest of the words in memory, and the copy; none of these is there where the span
-- has none
unfoldable pub slots_of : CallRules → ℕ → Placement → List ℕ → List Slot
slots_of r base p v =
    slot (floating p.span.floating.first) (take (8 * p.span.floating.count) (float_bytes r p.ty v))
    ∷ slot (general p.span.general.first) (spread (word_of r) p.span.general.count (standing r base p v))
    ∷ slot (area p.span.memory.start) (part (word_of r * p.span.general.count) p.span.memory.length (standing r base p v))
    ∷ slot (copies p.span.copy.start) (copy_bytes p v)
    ∷ []

-- "The value buffer holds the arguments in order without gaps": the slots of all arguments, left to right
unfoldable pub slots_of_all : CallRules → ℕ → List Placement → List ℕ → List Slot
slots_of_all r base [] v = []
slots_of_all r base (p ∷ ps) v = slots_of r base p (take p.size v) ++ slots_of_all r base ps (drop p.size v)

-- the hidden address in its register, a word of w bytes; "The hidden address is ignored where none is needed"
abbrev pub hidden_slots : ℕ → ResultPlaces → ℕ → List Slot
hidden_slots w ResultPlaces.Nothing address = []
hidden_slots w (ResultPlaces.Registers s) address = []
hidden_slots w (ResultPlaces.Hidden s) address = slot (general s.general.first) (spread w 1 (bytes_of w address)) ∷ []

-- ---- a value read back

-- the words of an argument, of w bytes each, as they stand in its general registers and memory
unfoldable pub words_at : ℕ → Span → Buffers → List ℕ
words_at w s b =
    gather w s.general.count (bytes_at (general s.general.first) (8 * s.general.count) b)
    ++ bytes_at (area s.memory.start) s.memory.length b

-- its FPRs' bytes, eight of each
abbrev pub fpr_bytes_at : Span → Buffers → List ℕ
fpr_bytes_at s b = bytes_at (floating s.floating.first) (8 * s.floating.count) b

-- the address of an argument that is passed by pointer
abbrev pub address_at : ℕ → Span → Buffers → ℕ
address_at w s b = value_of (words_at w s b)

-- "Reading takes a value's own bytes and ignores the slot's padding": of its words; or, by the address in the slot, of the copies
unfoldable pub words_value : CallRules → ℕ → Placement → Buffers → List ℕ
words_value r base p b =
    pick p.span.indirect (bytes_at (copies (address_at (word_of r) p.span b - base)) p.size b)
    (part (own_start r p.ty p.size) p.size (words_at (word_of r) p.span b))

-- "it prefers an FPR to memory"
unfoldable pub value_at : CallRules → ℕ → Placement → Buffers → List ℕ
value_at r base p b =
    pick (ltb 0 p.span.floating.count) (float_value r p.ty (fpr_bytes_at p.span b)) (words_value r base p b)

-- the value buffer: all arguments in order
unfoldable pub values_at : CallRules → ℕ → List Placement → Buffers → List ℕ
values_at r base [] b = []
values_at r base (p ∷ ps) b = value_at r base p b ++ values_at r base ps b
