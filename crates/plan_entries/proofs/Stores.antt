-- Words stored one after the other are a list put over the table. Assumes nothing.
use Prim.Native.Nat.{ℕ, ◌+◌}
use mathlib.Core.Path.{◌≡◌, sym, ◌∙◌}
use mathlib.Core.List.{List, [], ◌∷◌}
use lib.ListN.{set}
use Rattle.base_words.specs.Splice.{overlay, splice}
use Rattle.base_words.proofs.Splices.{splice-head, splice-nothing, splice-next}

-- the words xs, stored from number i on
unfoldable pub stored : List ℕ → ℕ → List ℕ → List ℕ
stored l i [] = l
stored l i (x ∷ xs) = stored (set l i x) (i + 1) xs

stored-splice : (l : List ℕ) (i : ℕ) (xs : List ℕ) → stored l i xs ≡ splice l i xs
unfolding stored
stored-splice l i [] = sym (splice-nothing l i)
stored-splice l i (x ∷ xs) = stored-splice (set l i x) (i + 1) xs ∙ splice-next l i x xs

pub stored-overlay : (l xs : List ℕ) → stored l 0 xs ≡ overlay l xs
stored-overlay l xs = stored-splice l 0 xs ∙ splice-head l xs
