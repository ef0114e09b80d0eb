-- Six words written one after the other are all the words. Assumes nothing.
use mathlib.Core.Path.{◌≡◌, refl, ◌∙◌}
use mathlib.Core.List.{List, [], ◌∷◌}
use Prim.Native.Nat.{ℕ}
use native.Mathlib.Omega.{arith}
use lib.ListN.{length, set, length-set}
use Rattle.call_walker.specs.Words.{walker_words}
use Rattle.call_walker_words.proofs.Marks.{flag-word}
use Rattle.call_walker_words.proofs.put_walker.Goals as goal

all-six : (l : List ℕ) → length l ≡ 6 → (a b c d e f : ℕ) → set (set (set (set (set (set l 0 a) 1 b) 2 c) 3 d) 4 e) 5 f ≡ a ∷ b ∷ c ∷ d ∷ e ∷ f ∷ []
all-six (u ∷ v ∷ w ∷ x ∷ y ∷ z ∷ []) h a b c d e f = refl
all-six [] h a b c d e f = absurd (omega arith)
all-six (u ∷ []) h a b c d e f = absurd (omega arith)
all-six (u ∷ v ∷ []) h a b c d e f = absurd (omega arith)
all-six (u ∷ v ∷ w ∷ []) h a b c d e f = absurd (omega arith)
all-six (u ∷ v ∷ w ∷ x ∷ []) h a b c d e f = absurd (omega arith)
all-six (u ∷ v ∷ w ∷ x ∷ y ∷ []) h a b c d e f = absurd (omega arith)
all-six (u ∷ v ∷ w ∷ x ∷ y ∷ z ∷ t ∷ l) h a b c d e f = absurd (omega arith)

pub bounds-words-4 : goal.bounds-words-4
bounds-words-4 c = simp length-set (omega arith)

pub bounds-words-5 : goal.bounds-words-5
bounds-words-5 c = simp length-set (omega arith)

pub shape_of-words : goal.shape_of-words
shape_of-words c = simp length-set

pub returns : goal.returns
unfolding walker_words
returns c = rw (c.from.ensures, c.from-2.ensures ∙ flag-word c.args.w.ellipsis, c.from-3.ensures ∙ flag-word c.args.w.hidden) (all-six c.args.words.now c.requires _ _ _ _ _ _)
