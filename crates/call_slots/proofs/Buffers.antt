-- The laws of slots put in buffers: lengths, and one after another. Assumes nothing.
-- ---- lengths
use mathlib.Core.Path.{◌≡◌, refl, ◌∙◌}
use mathlib.Core.List.{List, [], ◌∷◌, ◌++◌}
use Prim.Native.Nat.{ℕ}
use lib.ListN.{length}
use Rattle.base_words.proofs.Splices.{length-splice}
use Rattle.plan_places.specs.Spots.{Spot, general, floating, area, copies}
use Rattle.call_slots.specs.Buffers.{Buffers, Slot, put, put_all}

-- b has buffers of the lengths of a
pub record SameLengths (a b : Buffers) : Type 0 where
  pub image : length b.image ≡ length a.image
  pub area : length b.area ≡ length a.area
  pub copies : length b.copies ≡ length a.copies

pub same_then : {a b c : Buffers} → SameLengths a b → SameLengths b c → SameLengths a c
same_then x y = record { image = y.image ∙ x.image; area = y.area ∙ x.area; copies = y.copies ∙ x.copies }

pub put-lengths : (p : Spot) (bs : List ℕ) (b : Buffers) → SameLengths b (put p bs b)
unfolding put
put-lengths (general n) bs b = record { image = length-splice b.image _ bs; area = refl; copies = refl }
put-lengths (floating n) bs b = record { image = length-splice b.image _ bs; area = refl; copies = refl }
put-lengths (area n) bs b = record { image = refl; area = length-splice b.area n bs; copies = refl }
put-lengths (copies n) bs b = record { image = refl; area = refl; copies = length-splice b.copies n bs }

pub put_all-lengths : (ss : List Slot) (b : Buffers) → SameLengths b (put_all ss b)
unfolding put_all
put_all-lengths [] b = record { image = refl; area = refl; copies = refl }
put_all-lengths (s ∷ ss) b = same_then (put-lengths s.spot s.bytes b) (put_all-lengths ss (put s.spot s.bytes b))

-- ---- one after another

pub put_all-append : (ss ts : List Slot) (b : Buffers) → put_all (ss ++ ts) b ≡ put_all ts (put_all ss b)
unfolding put_all
put_all-append [] ts b = refl
put_all-append (s ∷ ss) ts b = put_all-append ss ts (put s.spot s.bytes b)
