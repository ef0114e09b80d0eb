-- Worked examples of stored items, on the definitions: 02, No. 7, and its decided points. Assumes nothing.
use mathlib.Core.Path.{◌≡◌, refl}
use mathlib.Core.Bool.{true, false}
use mathlib.Core.List.{List, [], ◌∷◌}
use Prim.Native.Nat.{ℕ}
use Rattle.base_conventions.specs.declared.Convention.{Convention}
use Rattle.sig_items.specs.Encode.{item}
use Rattle.plan_places.specs.declared.Span.{Span}
use Rattle.plan_places.specs.declared.ResultPlaces.{ResultPlaces}
use Rattle.plan_places.specs.Step.{rules_of}
use Rattle.plan_places.specs.Values.{registers, bytes}
use Rattle.plan_stored_items.specs.Places.{place_bytes, places_bytes, places_from, places_in, bytes_in_area, listed_from, floating_run, general_run, memory_run, copy_run, direct_places, argument_places, argument_item, result_item}

abbrev span : ℕ → ℕ → ℕ → ℕ → ℕ → ℕ → ℕ → ℕ → Span
span g n f m home size start stored = record {
  general = registers g n;
  floating = registers f m;
  home = bytes home size;
  memory = bytes start stored;
  copy = bytes 0 0;
  indirect = false;
}

-- "of an argument at @24 in r6 and r7, r7 has 32"
pub two-registers : argument_item (rules_of Convention.Ppc64) (span 6 2 2 0 24 16 40 0) ≡ 0x21 ∷ 0 ∷ 10 ∷ 0 ∷ 0 ∷ 6 ∷ 0 ∷ 24 ∷ 0 ∷ 0 ∷ 7 ∷ 0 ∷ 32 ∷ []
unfolding argument_item argument_places direct_places item places_bytes place_bytes places_from places_in floating_run general_run memory_run copy_run bytes_in_area listed_from
two-registers = refl

-- the same on AIX, at @12: a register has 4 bytes
pub two-words : argument_item (rules_of Convention.Aix) (span 6 2 2 0 12 8 20 0) ≡ 0x21 ∷ 0 ∷ 10 ∷ 0 ∷ 0 ∷ 6 ∷ 0 ∷ 12 ∷ 0 ∷ 0 ∷ 7 ∷ 0 ∷ 16 ∷ []
unfolding argument_item argument_places direct_places item places_bytes place_bytes places_from places_in floating_run general_run memory_run copy_run bytes_in_area listed_from
two-words = refl

-- No. 12's figure: ld at @16 "is then in f2 and f3"
pub two_floats : argument_item (rules_of Convention.Ppc64b) (span 5 0 2 2 16 16 32 0) ≡ 0x21 ∷ 0 ∷ 10 ∷ 0 ∷ 1 ∷ 2 ∷ 0 ∷ 16 ∷ 0 ∷ 1 ∷ 3 ∷ 0 ∷ 24 ∷ []
unfolding argument_item argument_places direct_places item places_bytes place_bytes places_from places_in floating_run general_run memory_run copy_run bytes_in_area listed_from
two_floats = refl

-- r10 and memory: 24 bytes at @56
pub straddling : argument_item (rules_of Convention.Ppc64) (span 10 1 1 0 56 24 64 16)
    ≡ 0x21 ∷ 0 ∷ 15 ∷ 0 ∷ 0 ∷ 10 ∷ 0 ∷ 56 ∷ 1 ∷ 0 ∷ 0 ∷ 0 ∷ 64 ∷ 1 ∷ 0 ∷ 0 ∷ 0 ∷ 72 ∷ []
unfolding argument_item argument_places direct_places item places_bytes place_bytes places_from places_in floating_run general_run memory_run copy_run bytes_in_area listed_from
straddling = refl

-- an AIX double with an ellipsis, in f1 and over r10 and memory: "in that order"
pub float-thrice : argument_item (rules_of Convention.Aix) (span 10 1 1 1 28 8 32 4)
    ≡ 0x21 ∷ 0 ∷ 15 ∷ 0 ∷ 1 ∷ 1 ∷ 0 ∷ 28 ∷ 0 ∷ 0 ∷ 10 ∷ 0 ∷ 28 ∷ 1 ∷ 0 ∷ 0 ∷ 0 ∷ 32 ∷ []
unfolding argument_item argument_places direct_places item places_bytes place_bytes places_from places_in floating_run general_run memory_run copy_run bytes_in_area listed_from
float-thrice = refl

-- Z: a pointer on the stack, counted from 160, to a copy at 16 of the copy buffer
pub z-copy : argument_item (rules_of Convention.Z) (record { general = registers 7 0; floating = registers 0 0; home = bytes 8 8; memory = bytes 8 8; copy = bytes 16 24; indirect = true })
    ≡ 0x21 ∷ 0 ∷ 10 ∷ 1 ∷ 0 ∷ 0 ∷ 0 ∷ 168 ∷ 2 ∷ 0 ∷ 0 ∷ 0 ∷ 16 ∷ []
unfolding argument_item argument_places direct_places item places_bytes place_bytes places_from places_in floating_run general_run memory_run copy_run bytes_in_area listed_from
z-copy = refl

-- Z: f2 has no offset, though 8 bytes of the stack are used
pub z-float : argument_item (rules_of Convention.Z) (span 7 0 2 1 8 0 8 0) ≡ 0x21 ∷ 0 ∷ 5 ∷ 0 ∷ 1 ∷ 2 ∷ 0 ∷ 0 ∷ []
unfolding argument_item argument_places direct_places item places_bytes place_bytes places_from places_in floating_run general_run memory_run copy_run bytes_in_area listed_from
z-float = refl

-- results: none, f1 and f2, hidden r3
pub no_result : result_item ResultPlaces.Nothing ≡ 0x22 ∷ 0 ∷ 0 ∷ []
unfolding result_item item places_bytes places_from places_in
no_result = refl

pub result-floats : result_item (ResultPlaces.Registers (span 3 0 1 2 0 16 16 0)) ≡ 0x22 ∷ 0 ∷ 10 ∷ 0 ∷ 1 ∷ 1 ∷ 0 ∷ 0 ∷ 0 ∷ 1 ∷ 2 ∷ 0 ∷ 0 ∷ []
unfolding result_item item places_bytes place_bytes places_from places_in
result-floats = refl

pub hidden-result : result_item (ResultPlaces.Hidden (span 3 1 1 0 0 8 8 0)) ≡ 0x22 ∷ 0 ∷ 5 ∷ 3 ∷ 0 ∷ 3 ∷ 0 ∷ 0 ∷ []
unfolding result_item item places_bytes place_bytes places_from places_in
hidden-result = refl
