-- The line of one argument in a printed plan. Document 01, "Sums to check against"; where the places' order matters, as in the specs of
-- places. Assumes nothing.
use Rattle.std.specs.Prelude.{ℕ, ◌+◌, Bool, List, [], ◌∷◌, ◌++◌, ltb}
use Rattle.base_words.specs.Basics.{pick}
use Rattle.base_conventions.specs.declared.Convention.{Convention}
use Rattle.base_conventions.specs.Numbers.{header_bytes}
use Rattle.plan_places.specs.declared.Bank.{Bank}
use Rattle.plan_places.specs.declared.Place.{Place}
use Rattle.plan_places.specs.declared.Span.{Span}
use Rattle.plan_places.specs.Places.{registers_of}
use Rattle.plan_text.specs.Decimals.{decimal}
use Rattle.plan_line.specs.Words.{general_mark, floating_mark, memory_word, offset_mark, reference_word, newline}

abbrev pub mark_of : Bank → List ℕ
mark_of Bank.General = general_mark
mark_of Bank.Floating = floating_mark

-- "r3", "f1", "mem", each after a space
abbrev pub place_text : Place → List ℕ
place_text (Place.Register b n) = mark_of b ++ decimal n
place_text (Place.Memory n) = memory_word

unfoldable pub places_text : List Place → List ℕ
places_text [] = []
places_text (p ∷ ps) = place_text p ++ places_text ps

-- whether some of an argument is in memory
abbrev pub stored : Span → Bool
stored s = ltb 0 s.memory.length

-- `mem` once, however many words are there
abbrev pub memory_text : Span → List ℕ
memory_text s = pick (stored s) (place_text (Place.Memory s.memory.start)) []

-- after `@`: the offset of the argument's first doubleword, even if that one is in a register. "Z prints `@` only after `mem`
-- (from 160)"; 02, No. 1: on AIX "`@` from the area's start"
abbrev pub offset_text : Convention → Span → List ℕ
offset_text Convention.Ppc64 s = offset_mark ++ decimal s.home.start
offset_text Convention.Aix s = offset_mark ++ decimal s.home.start
offset_text Convention.Ppc64b s = offset_mark ++ decimal s.home.start
offset_text Convention.Z s = pick (stored s) (offset_mark ++ decimal (header_bytes Convention.Z + s.home.start)) []

-- "` ref` at the line's end for an argument passed by pointer to a copy"
abbrev pub reference_text : Bool → List ℕ
reference_text b = pick b reference_word []

-- the line of argument i
unfoldable pub line_text : Convention → ℕ → Span → List ℕ
line_text c i s = decimal i ++ (places_text (registers_of s) ++ (memory_text s ++ (offset_text c s ++ (reference_text s.indirect ++ newline))))
