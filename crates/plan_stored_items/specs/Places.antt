-- The items of places in a stored plan. 02, No. 7: "A place is kind, bank and number, 1 byte each, and offset, 2 bytes: kind 0 register,
-- 1 memory, 2 copy (after its address), 3 hidden; bank 0 general, 1 floating; offset its own, counted as in listings, a copy's in its buffer;
-- unused numbers 0. Each register and each doubleword (AIX: word) of memory is a place, in listing order." Over the rules of any convention;
-- an ellipsis is in an argument's span already. Assumes nothing.
use Rattle.std.specs.Prelude.{ℕ, zero, suc, ◌+◌, ◌/◌, ◌%◌, List, [], ◌∷◌, ◌++◌}
use Rattle.base_words.specs.Basics.{pick}
use Rattle.base_conventions.specs.declared.Convention.{Convention}
use Rattle.base_conventions.specs.Numbers.{header_bytes}
use Rattle.sig_items.specs.Encode.{item}
use Rattle.plan_places.specs.declared.RegisterRange.{RegisterRange}
use Rattle.plan_places.specs.declared.CallRules.{CallRules}
use Rattle.plan_places.specs.declared.Span.{Span}
use Rattle.plan_places.specs.declared.ResultPlaces.{ResultPlaces}
use Rattle.plan_places.specs.Step.{word_of}
use Rattle.plan_stored_items.specs.declared.StoredPlace.{StoredPlace}
use Rattle.plan_stored_items.specs.declared.PlaceRun.{PlaceRun}

-- ---- a place

abbrev pub place : ℕ → ℕ → ℕ → ℕ → StoredPlace
place kind bank number offset = record { kind = kind; bank = bank; number = number; offset = offset }

-- "kind, bank and number, 1 byte each, and offset, 2 bytes"
unfoldable pub place_bytes : StoredPlace → List ℕ
place_bytes p = p.kind ∷ p.bank ∷ p.number ∷ p.offset / 256 ∷ p.offset % 256 ∷ []

unfoldable pub places_bytes : List StoredPlace → List ℕ
places_bytes [] = []
places_bytes (p ∷ ps) = place_bytes p ++ places_bytes ps

-- ---- places one after the other

-- n places, of which each has a number `on` higher and an offset `by` higher than the one before
unfoldable pub places_from : ℕ → ℕ → ℕ → ℕ → ℕ → ℕ → ℕ → List StoredPlace
places_from kind bank on by number offset zero = []
places_from kind bank on by number offset (suc n) = place kind bank number offset ∷ places_from kind bank on by (number + on) (offset + by) n

unfoldable pub places_in : PlaceRun → List StoredPlace
places_in q = places_from q.kind q.bank q.on q.by q.number q.offset q.count

abbrev pub place_run : ℕ → ℕ → ℕ → ℕ → ℕ → ℕ → ℕ → PlaceRun
place_run kind bank on by number offset n = record { kind = kind; bank = bank; on = on; by = by; number = number; offset = offset; count = n }

-- "kind 0 register"; "bank 0 general, 1 floating"
abbrev pub register_run : ℕ → RegisterRange → ℕ → ℕ → PlaceRun
register_run bank g offset by = place_run 0 bank 1 by g.first offset g.count

abbrev pub no_places : PlaceRun
no_places = place_run 0 0 0 0 0 0 0

-- ---- an argument

-- Bytes of the area that a register stands for, as its offset counts them: on PowerPC every word has its own in the area, also one that is in a
-- register; a Z register has none
unfoldable pub bytes_in_area : CallRules → ℕ → ℕ
bytes_in_area (CallRules.Power f) n = n
bytes_in_area CallRules.Z n = 0

-- where a listing counts the area from: its start, "Z prints `@` only after `mem` (from 160)"
unfoldable pub listed_from : CallRules → ℕ
listed_from (CallRules.Power f) = 0
listed_from CallRules.Z = header_bytes Convention.Z

-- a floating register has 8 bytes in every convention
unfoldable pub floating_run : CallRules → Span → PlaceRun
floating_run r s = register_run 1 s.floating (bytes_in_area r s.home.start) (bytes_in_area r 8)

unfoldable pub general_run : CallRules → Span → PlaceRun
general_run r s = register_run 0 s.general (bytes_in_area r s.home.start) (bytes_in_area r (word_of r))

-- "1 memory"; "each doubleword (AIX: word) of memory is a place"
unfoldable pub memory_run : CallRules → Span → PlaceRun
memory_run r s = place_run 1 0 0 (word_of r) 0 (listed_from r + s.memory.start) (s.memory.length / word_of r)

-- "2 copy (after its address)"; "a copy's in its buffer"
unfoldable pub copy_run : Span → PlaceRun
copy_run s = place_run 2 0 0 0 0 s.copy.start (pick s.indirect 1 0)

-- what a listing names: floating registers, general ones, memory
unfoldable pub direct_places : CallRules → Span → List StoredPlace
direct_places r s = places_in (floating_run r s) ++ (places_in (general_run r s) ++ places_in (memory_run r s))

unfoldable pub argument_places : CallRules → Span → List StoredPlace
argument_places r s = direct_places r s ++ places_in (copy_run s)

-- "then a tag 0x21 item for each argument its places"
unfoldable pub argument_item : CallRules → Span → List ℕ
argument_item r s = item 0x21 (places_bytes (argument_places r s))

-- ---- the result

-- in registers, floating ones before general ones, of which none has bytes in the area; "3 hidden": one place, the register with the address
abbrev pub result_first : ResultPlaces → PlaceRun
result_first ResultPlaces.Nothing = no_places
result_first (ResultPlaces.Registers s) = register_run 1 s.floating 0 0
result_first (ResultPlaces.Hidden s) = place_run 3 0 0 0 s.general.first 0 1

abbrev pub result_second : ResultPlaces → PlaceRun
result_second ResultPlaces.Nothing = no_places
result_second (ResultPlaces.Registers s) = register_run 0 s.general 0 0
result_second (ResultPlaces.Hidden s) = no_places

abbrev pub result_places : ResultPlaces → List StoredPlace
result_places x = places_in (result_first x) ++ places_in (result_second x)

-- "tag 0x22 the result's (empty for none)"
unfoldable pub result_item : ResultPlaces → List ℕ
result_item x = item 0x22 (places_bytes (result_places x))
