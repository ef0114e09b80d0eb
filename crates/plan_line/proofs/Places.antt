-- A place more: what a turn of the loop over registers adds. Assumes nothing.
use mathlib.Core.Path.{◌≡◌, sym, ap, ◌∙◌}
use mathlib.Core.List.{List, [], ◌∷◌, ◌++◌, append_assoc, append-nil}
use Prim.Native.Nat.{ℕ, ◌+◌, ◌<◌}
use native.Mathlib.Numerals.{add-one}
use lib.ListN.{length, get_or, take}
use lib.Seq.{take-suc}
use Rattle.plan_places.specs.declared.Place.{Place}
use Rattle.plan_places.specs.Places.{no_place}
use Rattle.plan_text.specs.Writing.{Wrote}
use Rattle.plan_text.proofs.Writing.{wrote_then}
use Rattle.plan_line.specs.Line.{place_text, places_text}

places-snoc : (ps : List Place) (p : Place) → places_text (ps ++ p ∷ []) ≡ places_text ps ++ place_text p
unfolding places_text
places-snoc [] p = append-nil (place_text p)
places-snoc (q ∷ ps) p =
    ap (λ (l : List ℕ). place_text q ++ l) (places-snoc ps p) ∙ sym (append_assoc (place_text q) (places_text ps) (place_text p))

pub wrote-place : {a b c : List ℕ} {n m k : ℕ} (ps : List Place) (i : ℕ) → i < length ps
    → Wrote a b n m (places_text (take i ps)) → Wrote b c m k (place_text (get_or ps i no_place)) → Wrote a c n k (places_text (take (i + 1) ps))
wrote-place ps i h x y = rw (add-one i, take-suc ps i no_place h, places-snoc (take i ps) (get_or ps i no_place)) (wrote_then x y)
