-- Bytes put over a part of a list of bytes, and a part of a list taken out. Document 01 speaks of both throughout: "Filling changes only named slots and copies"
-- ("What stands in a slot"), "An accepted write puts the given value or bytes in the place named and changes nothing else" ("Frames").
-- A list keeps its length whatever is put over it, so that a chain of writes is stated without a word about room; that there is room is asked where it is read back.
-- Assumes nothing.
use Rattle.std.specs.Prelude.{ℕ, zero, suc, List, [], ◌∷◌, ltb, length, take, drop}
use Rattle.base_words.specs.Basics.{pick}

-- bs over the head of l; what of bs would pass the end of l is lost. What a writer leaves in a part that "starts at its offset" and is "written there"
-- ("Choosing the form by place")
unfoldable pub overlay : List ℕ → List ℕ → List ℕ
overlay l [] = l
overlay [] (b ∷ bs) = []
overlay (x ∷ l) (b ∷ bs) = b ∷ overlay l bs

-- the same, but nothing where not all of bs has room: a lent buffer or table that is too short "is left as it was" (docs/DECISIONS.md, 5)
abbrev pub overlay_whole : List ℕ → List ℕ → List ℕ
overlay_whole l bs = pick (ltb (length l) (length bs)) l (overlay l bs)

-- bs over l from the offset n on: the same write seen from the whole buffer, which "changes nothing else" ("Frames")
unfoldable pub splice : List ℕ → ℕ → List ℕ → List ℕ
unfolding overlay
splice l zero bs = overlay l bs
splice [] (suc n) bs = []
splice (x ∷ l) (suc n) bs = x ∷ splice l n bs

-- the m elements of l from the offset n on: "Reading takes a value's own bytes" ("What stands in a slot")
abbrev pub part : ℕ → ℕ → List ℕ → List ℕ
part n m l = take m (drop n l)
