-- The places of an argument or a result, one by one, in the order of a listing. Document 01, "Places on PPC64": "A place is a
-- general register, a floating register or memory, and a register place names its bank and number". Assumes nothing.
use Rattle.std.specs.Prelude.{ℕ, zero, suc, ◌+◌, ◌/◌, ◌≤◌, List, [], ◌∷◌, ◌++◌, map}
use Rattle.plan_places.specs.declared.Bank.{Bank}
use Rattle.plan_places.specs.declared.Place.{Place}
use Rattle.plan_places.specs.declared.RegisterRange.{RegisterRange}
use Rattle.plan_places.specs.declared.Span.{Span}

-- n numbers from `first` on, each `by` more than the one before
unfoldable pub up_from : ℕ → ℕ → ℕ → List ℕ
up_from first by zero = []
up_from first by (suc n) = first ∷ up_from (first + by) by n

abbrev pub register_place : Bank → ℕ → Place
register_place b n = Place.Register b n

abbrev pub range_places : Bank → RegisterRange → List Place
range_places b r = map (register_place b) (up_from r.first 1 r.count)

-- the registers: floating ones before general ones
unfoldable pub registers_of : Span → List Place
registers_of s = range_places Bank.Floating s.floating ++ range_places Bank.General s.general

-- register numbers that fit their type
abbrev pub Numbered : Span → Type 0
Numbered s = (s.floating.first + s.floating.count ≤ 32) × (s.general.first + s.general.count ≤ 32)

-- the words of w bytes in memory
unfoldable pub memory_of : ℕ → Span → List Place
memory_of w s = map Place.Memory (up_from s.memory.start w (s.memory.length / w))

unfoldable pub places_of : ℕ → Span → List Place
places_of w s = registers_of s ++ memory_of w s

abbrev pub no_place : Place
no_place = Place.Memory 0
