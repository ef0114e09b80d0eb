-- What is proved of stored places besides the writers' bytes: they are a listing's, in its order. 02, No. 7: "Each register and each doubleword
-- (AIX: word) of memory is a place, in listing order". proofs/Listing.antt proves it. Assumes nothing.
use Rattle.std.specs.Prelude.{ℕ, zero, suc, ◌-◌, ◌≡◌, List, [], map}
use Rattle.sig_types.specs.declared.ValueType.{ValueType}
use Rattle.plan_places.specs.declared.Bank.{Bank}
use Rattle.plan_places.specs.declared.Place.{Place}
use Rattle.plan_places.specs.declared.CallRules.{CallRules}
use Rattle.plan_places.specs.declared.Span.{Span}
use Rattle.plan_places.specs.declared.ResultPlaces.{ResultPlaces}
use Rattle.plan_places.specs.Step.{word_of, result_of}
use Rattle.plan_places.specs.Helpers.{LawfulCalls}
use Rattle.plan_places.specs.Places.{registers_of, places_of}
use Rattle.plan_stored_items.specs.declared.StoredPlace.{StoredPlace}
use Rattle.plan_stored_items.specs.Places.{listed_from, direct_places, result_places}

abbrev pub stored_bank : ℕ → Bank
stored_bank zero = Bank.General
stored_bank (suc n) = Bank.Floating

-- a stored place as a listing's, by its kind: memory at an offset in the area, or a register, that of a hidden address too
abbrev pub listed_by : ℕ → CallRules → StoredPlace → Place
listed_by zero r p = Place.Register (stored_bank p.bank) p.number
listed_by (suc zero) r p = Place.Memory (p.offset - listed_from r)
listed_by (suc (suc n)) r p = Place.Register (stored_bank p.bank) p.number

unfoldable pub listed_place : CallRules → StoredPlace → Place
listed_place r p = listed_by p.kind r p

-- of an argument: all but the copy, which a listing marks by `ref`
abbrev pub StoredAsListed : Type 0
StoredAsListed = (r : CallRules) (s : Span) → map (listed_place r) (direct_places r s) ≡ places_of (word_of r) s

-- of a result: the registers after `result`, or after `hidden`
abbrev pub result_registers : ResultPlaces → List Place
result_registers ResultPlaces.Nothing = []
result_registers (ResultPlaces.Registers s) = registers_of s
result_registers (ResultPlaces.Hidden s) = registers_of s

abbrev pub ResultAsListed : Type 0
ResultAsListed = (r : CallRules) (t : ValueType) (n : ℕ) → LawfulCalls r → map (listed_place r) (result_places (result_of r t n)) ≡ result_registers (result_of r t n)
