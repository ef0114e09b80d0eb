-- Stored places are a listing's, in its order (specs/Listed.antt states it). Assumes nothing.
use mathlib.Core.Path.{◌≡◌, refl, sym, ap, ap₂, ◌∙◌}
use mathlib.Core.Bool.{Bool, true, false}
use mathlib.Core.List.{List, [], ◌∷◌, ◌++◌, map, append_assoc}
use Prim.Native.Nat.{ℕ, zero, suc, ◌+◌, ◌-◌, ◌/◌, ◌≤◌}
use native.Mathlib.Omega.{arith}
use native.Mathlib.Nat.{add-div_left, div-eq_of_lt}
use Rattle.base_words.specs.Basics.{pick}
use Rattle.sig_types.specs.declared.ValueType.{ValueType}
use Rattle.base_words.proofs.Basics.{map-append}
use Rattle.plan_places.specs.declared.Bank.{Bank}
use Rattle.plan_places.specs.declared.Place.{Place}
use Rattle.plan_places.specs.declared.CallRules.{CallRules}
use Rattle.plan_places.specs.declared.Span.{Span}
use Rattle.plan_places.specs.declared.PowerRules.{PowerRules}
use Rattle.plan_places.specs.declared.ResultPlaces.{ResultPlaces}
use Rattle.plan_places.specs.Values.{pointer}
use Rattle.plan_places.specs.Power.{words, fprs, share_of, power_share}
use Rattle.plan_places.specs.ZSeries.{z_class, z_span_of}
use Rattle.plan_places.specs.Step.{word_of, fresh_cursor, span_of, hidden_for, returning, result_of}
use Rattle.plan_places.specs.Helpers.{LawfulCalls}
use Rattle.plan_places.specs.Places.{up_from, register_place, registers_of, memory_of, places_of}
use Rattle.plan_stored_items.specs.declared.StoredPlace.{StoredPlace}
use Rattle.plan_stored_items.specs.Places.{places_from, places_in, bytes_in_area, listed_from, floating_run, general_run, memory_run, direct_places, result_places}
use Rattle.plan_stored_items.specs.Listed.{stored_bank, listed_place, StoredAsListed, result_registers, ResultAsListed}

-- registers
numbers-from : (r : CallRules) (bank by number offset n : ℕ)
    → map (listed_place r) (places_from 0 bank 1 by number offset n) ≡ map (register_place (stored_bank bank)) (up_from number 1 n)
unfolding places_from up_from listed_place
numbers-from r bank by number offset zero = refl
numbers-from r bank by number offset (suc n) = ap (λ (l : List Place). register_place (stored_bank bank) number ∷ l) (numbers-from r bank by (number + 1) (offset + by) n)

-- memory, counted from k bytes before the area
offsets-from : (r : CallRules) (by number start n : ℕ) → map (listed_place r) (places_from 1 0 0 by number (listed_from r + start) n) ≡ map Place.Memory (up_from start by n)
unfolding places_from up_from listed_place
offsets-from r by number start zero = refl
offsets-from r by number start (suc n) =
    let here : listed_from r + start - listed_from r ≡ start = omega arith in
    let next : listed_from r + start + by ≡ listed_from r + (start + by) = omega arith in
    rw (here, next) (ap (λ (l : List Place). Place.Memory start ∷ l) (offsets-from r by (number + 0) (start + by) n))

pub stored-as-listed : StoredAsListed
unfolding direct_places places_in floating_run general_run memory_run registers_of memory_of places_of
stored-as-listed r s =
    let f = places_in (floating_run r s) in
    let g = places_in (general_run r s) in
    let m = places_in (memory_run r s) in
    let floats = numbers-from r 1 (bytes_in_area r 8) s.floating.first (bytes_in_area r s.home.start) s.floating.count in
    let generals = numbers-from r 0 (bytes_in_area r (word_of r)) s.general.first (bytes_in_area r s.home.start) s.general.count in
    let memories = offsets-from r (word_of r) 0 s.memory.start (s.memory.length / word_of r) in
    map-append (listed_place r) f (g ++ m) ∙ ap (λ (l : List Place). map (listed_place r) f ++ l) (map-append (listed_place r) g m)
    ∙ ap₂ (λ (a l : List Place). a ++ l) floats (ap₂ (λ (a l : List Place). a ++ l) generals memories)
    ∙ sym (append_assoc (map (register_place Bank.Floating) (up_from s.floating.first 1 s.floating.count))
    (map (register_place Bank.General) (up_from s.general.first 1 s.general.count))
    (memory_of (word_of r) s))

-- ---- the result

registers-listed : (r : CallRules) (s : Span) → map (listed_place r) (result_places (ResultPlaces.Registers s)) ≡ registers_of s
unfolding places_in registers_of
registers-listed r s =
    map-append (listed_place r) (places_from 0 1 1 0 s.floating.first 0 s.floating.count) (places_from 0 0 1 0 s.general.first 0 s.general.count)
    ∙ ap₂ (λ (a l : List Place). a ++ l) (numbers-from r 1 0 s.floating.first 0 s.floating.count) (numbers-from r 0 0 s.general.first 0 s.general.count)

one-listed : (r : CallRules) (s : Span) → s.floating.count ≡ 0 → s.general.count ≡ 1 → map (listed_place r) (result_places (ResultPlaces.Hidden s)) ≡ registers_of s
unfolding places_in places_from listed_place registers_of up_from
one-listed r s none one = rw (none, one)

-- a hidden address is in one general register
hidden-one : (r : CallRules) → LawfulCalls r → ((span_of r (fresh_cursor r) pointer (word_of r)).floating.count ≡ 0) × ((span_of r (fresh_cursor r) pointer (word_of r)).general.count ≡ 1)
unfolding span_of fresh_cursor words fprs share_of power_share z_class z_span_of
hidden-one (CallRules.Power f) l =
    let one : (f.word + (f.word - 1)) / f.word ≡ 1 = add-div_left (f.word - 1) (omega arith) ∙ ap (λ (x : ℕ). x + 1) (div-eq_of_lt (omega arith)) in
    (refl, rw one)
hidden-one CallRules.Z l = (refl, refl)

pub result-as-listed : ResultAsListed
unfolding result_of
result-as-listed r t n l = go (hidden_for r t)
  where
    go : (b : Bool)
        → map (listed_place r) (result_places (pick b (ResultPlaces.Hidden (span_of r (fresh_cursor r) pointer (word_of r))) (ResultPlaces.Registers (span_of (returning r) (fresh_cursor r) t n))))
        ≡ result_registers (pick b (ResultPlaces.Hidden (span_of r (fresh_cursor r) pointer (word_of r))) (ResultPlaces.Registers (span_of (returning r) (fresh_cursor r) t n)))
    go true = let one = hidden-one r l in one-listed r (span_of r (fresh_cursor r) pointer (word_of r)) one.0 one.1
    go false = registers-listed r (span_of (returning r) (fresh_cursor r) t n)
