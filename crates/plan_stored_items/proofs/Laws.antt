-- The laws of stored places: lengths, one run after another, and that every run of a plan fits its bytes. Assumes nothing.
use mathlib.Core.Path.{◌≡◌, refl, sym, ap, subst, ◌∙◌}
use mathlib.Core.Bool.{Bool, true, false}
use mathlib.Core.List.{List, [], ◌∷◌, ◌++◌, append_assoc, append-nil}
use Prim.Native.Nat.{ℕ, zero, suc, ◌+◌, ◌-◌, ◌*◌, ◌/◌, ◌%◌, ◌≤◌, ◌<◌}
use native.Mathlib.Omega.{arith}
use native.Mathlib.Nat.{div-mul-le_self, mul-le-mul_left}
use lib.ListN.{length, length-append}
use Rattle.base_words.specs.Basics.{pick}
use Rattle.sig_items.specs.Encode.{item}
use Rattle.plan_places.specs.declared.CallRules.{CallRules}
use Rattle.plan_places.specs.declared.Span.{Span}
use Rattle.plan_places.specs.declared.ResultPlaces.{ResultPlaces}
use Rattle.plan_places.specs.Step.{word_of}
use Rattle.plan_places.specs.Helpers.{LawfulCalls, ResultNumbered}
use Rattle.plan_places.proofs.Bounds.{word-most}
use Rattle.plan_text.specs.Writing.{Wrote}
use Rattle.plan_text.proofs.Writing.{wrote_nothing, wrote_then}
use Rattle.plan_stored_items.specs.declared.StoredPlace.{StoredPlace}
use Rattle.plan_stored_items.specs.declared.PlaceRun.{PlaceRun}
use Rattle.plan_stored_items.specs.Places.{place, place_bytes, places_bytes, places_from, places_in, place_run, register_run, bytes_in_area, listed_from, floating_run, general_run, memory_run, copy_run, direct_places, argument_places, argument_item, result_first, result_second, result_item}
use Rattle.plan_stored_items.specs.Helpers.{RunFits, Storable}

-- ---- lengths

length-place : (p : StoredPlace) → length (place_bytes p) ≡ 5
unfolding place_bytes
length-place p = refl

length-places : (ps : List StoredPlace) → length (places_bytes ps) ≡ 5 * length ps
unfolding places_bytes
length-places [] = refl
length-places (p ∷ ps) = simp length-append (omega (arith, length-place p, length-places ps))

length_from : (kind bank on by number offset n : ℕ) → length (places_from kind bank on by number offset n) ≡ n
unfolding places_from
length_from kind bank on by number offset zero = refl
length_from kind bank on by number offset (suc n) = ap suc (length_from kind bank on by (number + on) (offset + by) n)

pub length_run : (q : PlaceRun) → length (places_bytes (places_in q)) ≡ 5 * q.count
unfolding places_in
length_run q = length-places (places_in q) ∙ ap (λ (n : ℕ). 5 * n) (length_from q.kind q.bank q.on q.by q.number q.offset q.count)

-- ---- one after the other

pub places-append : (ps qs : List StoredPlace) → places_bytes (ps ++ qs) ≡ places_bytes ps ++ places_bytes qs
unfolding places_bytes
places-append [] qs = refl
places-append (p ∷ ps) qs = ap (λ (l : List ℕ). place_bytes p ++ l) (places-append ps qs) ∙ sym (append_assoc (place_bytes p) (places_bytes ps) (places_bytes qs))

-- a header and a body of n bytes are an item
pub item-written : (tag n : ℕ) (body : List ℕ) → length body ≡ n → (tag ∷ n / 256 ∷ n % 256 ∷ []) ++ body ≡ item tag body
unfolding item
item-written tag n body h = rw (sym h)

-- ---- the loop over a run: `left` places are still to be written

pub record Going (q : PlaceRun) (a b : List ℕ) (at next number offset left : ℕ) : Type 0 where
  pub done : List StoredPlace
  pub wrote : Wrote a b at next (places_bytes done)
  pub rest : done ++ places_from q.kind q.bank q.on q.by number offset left ≡ places_in q
  pub numbers : number + left ≤ 255
  pub offsets : offset + 8 * left ≤ 65535
  pub end : next + 5 * left ≡ at + 5 * q.count

pub going_start : (q : PlaceRun) (a : List ℕ) (at : ℕ) → RunFits q → Going q a a at at q.number q.offset q.count
unfolding places_bytes places_in
going_start q a at f = record { done = []; wrote = wrote_nothing a at; rest = refl; numbers = f.numbers; offsets = f.offsets; end = refl }

pub going_more : (q : PlaceRun) (a b d : List ℕ) (at next k number offset left : ℕ) → RunFits q → 0 < left
    → Going q a b at next number offset left
    → Wrote b d next k (place_bytes (place q.kind q.bank number offset)) → k ≡ next + 5
    → Going q a d at k (number + q.on) (offset + q.by) (left - 1)
unfolding places_from places_bytes
going_more q a b d at next k number offset zero f h g w e = absurd (omega arith)
going_more q a b d at next k number offset (suc n) f h g w e =
    let p : StoredPlace = place q.kind q.bank number offset in
    let less : suc n - 1 ≡ n = omega arith in
    record {
      done = g.done ++ p ∷ [];
      wrote = rw (places-append g.done (p ∷ []), append-nil (place_bytes p)) (wrote_then g.wrote w);
      rest = rw less (append_assoc g.done (p ∷ []) (places_from q.kind q.bank q.on q.by (number + q.on) (offset + q.by) n) ∙ g.rest);
      numbers = omega (arith, g.numbers, f.on);
      offsets = omega (arith, g.offsets, f.by);
      end = omega (arith, g.end);
    }

pub going_end : (q : PlaceRun) (a b : List ℕ) (at next number offset left : ℕ) → left ≤ 0 → Going q a b at next number offset left
    → Wrote a b at next (places_bytes (places_in q)) × (next ≡ at + 5 * q.count)
unfolding places_from
going_end q a b at next number offset zero h g = let all : g.done ≡ places_in q = sym (append-nil g.done) ∙ g.rest in (subst (λ (ps : List StoredPlace). Wrote a b at next (places_bytes ps)) all g.wrote, omega (arith, g.end))
going_end q a b at next number offset (suc n) h g = absurd (omega arith)

-- ---- the runs of a plan fit their bytes, and are short

own-most : (r : CallRules) (n : ℕ) → bytes_in_area r n ≤ n
unfolding bytes_in_area
own-most (CallRules.Power f) n = omega arith
own-most CallRules.Z n = omega arith

from-most : (r : CallRules) → listed_from r ≤ 160
unfolding listed_from
from-most (CallRules.Power f) = omega arith
from-most CallRules.Z = omega arith

word-least : (r : CallRules) → LawfulCalls r → 4 ≤ word_of r
word-least (CallRules.Power f) h = omega arith
word-least CallRules.Z h = omega arith

-- the words in memory
pub words-most : (r : CallRules) (n : ℕ) → LawfulCalls r → n ≤ 264 → n / word_of r ≤ 66
words-most r n l h =
    let q : ℕ = n / word_of r in
    let least : q * 4 ≤ q * word_of r = mul-le-mul_left q (word-least r l) in
    omega (arith, least, div-mul-le_self n (word_of r))

pub record Short (q : PlaceRun) (n : ℕ) : Type 0 where
  pub fits : RunFits q
  pub few : q.count ≤ n

floating-short : (r : CallRules) (s : Span) → Storable s → Short (floating_run r s) 32
unfolding floating_run
floating-short r s h = record {
  fits = record {
    on = omega arith;
    by = own-most r 8;
    numbers = omega (arith, h.numbered.0);
    offsets = omega (arith, h.numbered.0, h.home, own-most r s.home.start);
  };
  few = omega (arith, h.numbered.0);
}

general-short : (r : CallRules) (s : Span) → LawfulCalls r → Storable s → Short (general_run r s) 32
unfolding general_run
general-short r s l h = record {
  fits = record {
    on = omega arith;
    by = omega (arith, own-most r (word_of r), word-most r l);
    numbers = omega (arith, h.numbered.1);
    offsets = omega (arith, h.numbered.1, h.home, own-most r s.home.start);
  };
  few = omega (arith, h.numbered.1);
}

memory-short : (r : CallRules) (s : Span) → LawfulCalls r → Storable s → Short (memory_run r s) 66
unfolding memory_run
memory-short r s l h =
    let few = words-most r s.memory.length l h.short in
    record {
      fits = record {
        on = omega arith;
        by = word-most r l;
        numbers = omega (arith, few);
        offsets = omega (arith, few, h.memory, from-most r);
      };
      few = few;
    }

copy-short : (s : Span) → Storable s → Short (copy_run s) 1
unfolding copy_run
copy-short s h = go s.indirect
  where
    go : (b : Bool) → Short (place_run 2 0 0 0 0 s.copy.start (pick b 1 0)) 1
    go true = record { fits = record { on = omega arith; by = omega arith; numbers = omega arith; offsets = omega (arith, h.copy) }; few = omega arith }
    go false = record { fits = record { on = omega arith; by = omega arith; numbers = omega arith; offsets = omega (arith, h.copy) }; few = omega arith }

none-short : Short (place_run 0 0 0 0 0 0 0) 32
none-short = record { fits = record { on = omega arith; by = omega arith; numbers = omega arith; offsets = omega arith }; few = omega arith }

pub first_short : (x : ResultPlaces) → ResultNumbered x → Short (result_first x) 32
first_short ResultPlaces.Nothing h = none-short
first_short (ResultPlaces.Registers s) h = record {
  fits = record { on = omega arith; by = omega arith; numbers = omega (arith, h.0); offsets = omega (arith, h.0) };
  few = omega (arith, h.0);
}
first_short (ResultPlaces.Hidden s) h = record {
  fits = record { on = omega arith; by = omega arith; numbers = omega (arith, h.1); offsets = omega arith };
  few = omega arith;
}

pub second_short : (x : ResultPlaces) → ResultNumbered x → Short (result_second x) 32
second_short ResultPlaces.Nothing h = none-short
second_short (ResultPlaces.Registers s) h = record {
  fits = record { on = omega arith; by = omega arith; numbers = omega (arith, h.1); offsets = omega (arith, h.1) };
  few = omega (arith, h.1);
}
second_short (ResultPlaces.Hidden s) h = none-short

-- a run of the program that is the definition's
run_is : (d : PlaceRun) (n : ℕ) → Short d n → (q : PlaceRun) → q ≡ d → (q ≡ d) × RunFits q × (q.count ≤ n)
run_is d n h q e = (e, subst RunFits (sym e) h.fits, subst (λ (x : PlaceRun). x.count ≤ n) (sym e) h.few)

pub floating-run : (r : CallRules) (s : Span) → Storable s → (q : PlaceRun) → q ≡ floating_run r s → (q ≡ floating_run r s) × RunFits q × (q.count ≤ 32)
floating-run r s h = run_is (floating_run r s) 32 (floating-short r s h)

pub general-run : (r : CallRules) (s : Span) → LawfulCalls r → Storable s → (q : PlaceRun) → q ≡ general_run r s → (q ≡ general_run r s) × RunFits q × (q.count ≤ 32)
general-run r s l h = run_is (general_run r s) 32 (general-short r s l h)

pub memory-run : (r : CallRules) (s : Span) → LawfulCalls r → Storable s → (q : PlaceRun) → q ≡ memory_run r s → (q ≡ memory_run r s) × RunFits q × (q.count ≤ 66)
memory-run r s l h = run_is (memory_run r s) 66 (memory-short r s l h)

pub copy_run_lem : (s : Span) → Storable s → (q : PlaceRun) → q ≡ copy_run s → (q ≡ copy_run s) × RunFits q × (q.count ≤ 1)
copy_run_lem s h = run_is (copy_run s) 1 (copy-short s h)

pub result-first-run : (x : ResultPlaces) → ResultNumbered x → (q : PlaceRun) → q ≡ result_first x → (q ≡ result_first x) × RunFits q × (q.count ≤ 32)
result-first-run x h = run_is (result_first x) 32 (first_short x h)

pub result-second-run : (x : ResultPlaces) → ResultNumbered x → (q : PlaceRun) → q ≡ result_second x → (q ≡ result_second x) × RunFits q × (q.count ≤ 32)
result-second-run x h = run_is (result_second x) 32 (second_short x h)

-- ---- items

-- the places of an argument, in the definition's runs
abbrev pub argument_count : CallRules → Span → ℕ
argument_count r s = (floating_run r s).count + ((general_run r s).count + ((memory_run r s).count + (copy_run s).count))

-- run after run
abbrev argument_runs : CallRules → Span → List ℕ
argument_runs r s = places_bytes (places_in (floating_run r s)) ++ (places_bytes (places_in (general_run r s)) ++ (places_bytes (places_in (memory_run r s)) ++ places_bytes (places_in (copy_run s))))

argument-runs : (r : CallRules) (s : Span) → places_bytes (argument_places r s) ≡ argument_runs r s
unfolding argument_places direct_places
argument-runs r s =
    let f : List StoredPlace = places_in (floating_run r s) in
    let g : List StoredPlace = places_in (general_run r s) in
    let m : List StoredPlace = places_in (memory_run r s) in
    let k : List StoredPlace = places_in (copy_run s) in
    let flat : (f ++ (g ++ m)) ++ k ≡ f ++ (g ++ (m ++ k)) = append_assoc f (g ++ m) k ∙ ap (λ (l : List StoredPlace). f ++ l) (append_assoc g m k) in
    ap places_bytes flat ∙ places-append f (g ++ (m ++ k))
    ∙ ap (λ (l : List ℕ). places_bytes f ++ l) (places-append g (m ++ k) ∙ ap (λ (l : List ℕ). places_bytes g ++ l) (places-append m k))

length-argument-places : (r : CallRules) (s : Span) → length (places_bytes (argument_places r s)) ≡ 5 * argument_count r s
length-argument-places r s =
    ap length (argument-runs r s)
    ∙ simp (length-append, length_run (floating_run r s), length_run (general_run r s), length_run (memory_run r s), length_run (copy_run s)) (omega arith)

pub length-argument : (r : CallRules) (s : Span) → length (argument_item r s) ≡ 3 + 5 * argument_count r s
unfolding argument_item item
length-argument r s = omega (arith, length-argument-places r s)

length-result-places : (x : ResultPlaces) → length (places_bytes (places_in (result_first x) ++ places_in (result_second x))) ≡ 5 * ((result_first x).count + (result_second x).count)
length-result-places x =
    ap length (places-append (places_in (result_first x)) (places_in (result_second x)))
    ∙ simp (length-append, length_run (result_first x), length_run (result_second x)) (omega arith)

pub length-result : (x : ResultPlaces) → length (result_item x) ≡ 3 + 5 * ((result_first x).count + (result_second x).count)
unfolding result_item item
length-result x = omega (arith, length-result-places x)

-- a header of the program, and after it runs that are the definition's
pub wrote-argument : {a b : List ℕ} {n e : ℕ} (r : CallRules) (s : Span) (f g m k : PlaceRun)
    → f ≡ floating_run r s → g ≡ general_run r s → m ≡ memory_run r s → k ≡ copy_run s
    → Wrote a b n e ((0x21 ∷ 5 * (f.count + (g.count + (m.count + k.count))) / 256 ∷ 5 * (f.count + (g.count + (m.count + k.count))) % 256 ∷ [])
    ++ (places_bytes (places_in f) ++ (places_bytes (places_in g) ++ (places_bytes (places_in m) ++ places_bytes (places_in k)))))
    → Wrote a b n e (argument_item r s)
unfolding argument_item
wrote-argument {a} {b} {n} {e} r s f g m k ef eg em ek w =
    let whole = ap (λ (l : List ℕ). (0x21 ∷ 5 * argument_count r s / 256 ∷ 5 * argument_count r s % 256 ∷ []) ++ l) (sym (argument-runs r s))
    ∙ item-written 0x21 (5 * argument_count r s) (places_bytes (argument_places r s)) (length-argument-places r s) in
    subst (λ (l : List ℕ). Wrote a b n e l) whole (rw (ef, eg, em, ek) at w)

pub wrote-result : {a b : List ℕ} {n e : ℕ} (x : ResultPlaces) (f g : PlaceRun) → f ≡ result_first x → g ≡ result_second x
    → Wrote a b n e ((0x22 ∷ 5 * (f.count + g.count) / 256 ∷ 5 * (f.count + g.count) % 256 ∷ []) ++ (places_bytes (places_in f) ++ places_bytes (places_in g)))
    → Wrote a b n e (result_item x)
unfolding result_item
wrote-result {a} {b} {n} {e} x f g ef eg w =
    let count : ℕ = 5 * ((result_first x).count + (result_second x).count) in
    let whole = ap (λ (l : List ℕ). (0x22 ∷ count / 256 ∷ count % 256 ∷ []) ++ l) (sym (places-append (places_in (result_first x)) (places_in (result_second x))))
    ∙ item-written 0x22 count (places_bytes (places_in (result_first x) ++ places_in (result_second x))) (length-result-places x) in
    subst (λ (l : List ℕ). Wrote a b n e l) whole (rw (ef, eg) at w)
