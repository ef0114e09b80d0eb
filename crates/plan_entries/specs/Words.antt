-- One argument's places in 64-bit words, and the table that the caller lends for them (`fz_place` of include/flakuzhen.h). The form is ours;
-- what stands in it is document 01's. Assumes nothing.
use Rattle.std.specs.Prelude.{ℕ, List, [], ◌∷◌, length, ltb, eqb}
use Rattle.base_words.specs.Basics.{pick}
use Rattle.base_words.specs.Splice.{overlay}
use Rattle.plan_places.specs.declared.RegisterRange.{RegisterRange}
use Rattle.plan_places.specs.declared.ByteRange.{ByteRange}
use Rattle.plan_places.specs.declared.Span.{Span}

-- where a range starts: 0 for one that is not used
abbrev pub first_word : RegisterRange → ℕ
first_word r = pick (eqb r.count 0) 0 r.first

abbrev pub start_word : ByteRange → ℕ
start_word r = pick (eqb r.length 0) 0 r.start

-- the words of an entry
abbrev pub entry_length : ℕ
entry_length = 13

-- where the type item stands in the signature; the value's size, and where it starts in the values; the general and the floating
-- registers; the bytes of the area, used or not, and those of them that hold it; the copy
unfoldable pub entry_words : ℕ → ℕ → ℕ → Span → List ℕ
entry_words item size value s =
    item ∷ size ∷ value
    ∷ first_word s.general ∷ s.general.count
    ∷ first_word s.floating ∷ s.floating.count
    ∷ start_word s.home ∷ s.home.length
    ∷ start_word s.memory ∷ s.memory.length
    ∷ start_word s.copy ∷ s.copy.length
    ∷ []
