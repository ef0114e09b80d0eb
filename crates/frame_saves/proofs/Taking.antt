-- The laws of a run that is taken back: its length, registers in the run, registers beside it, bounds.
-- Assumes nothing.
use Prim.Native.Nat.{ℕ, ◌+◌, ◌-◌, ◌<◌, ◌≤◌}
use mathlib.Core.Path.{◌≡◌, ◌∙◌}
use mathlib.Core.Logic.{⊎_elim}
use mathlib.Core.List.{List}
use native.Mathlib.Omega.{arith}
use lib.ListN.{length, get_or}
use Rattle.base_words.proofs.Basics.{le-or-lt}
use Rattle.frame_saves.specs.Saves.{Save, taken}
use Rattle.frame_saves.proofs.Saving.{Held}
use Rattle.frame_saves.proofs.Runs.{load-length, load-under, load-over, load-in}

module _ (v : Save) (xs l : List ℕ) where
  pub taken-length : length (taken xs l v) ≡ length xs
  taken-length = load-length v.count xs l v.at v.width v.from

  pub taken-under : (i : ℕ) → i < v.from → get_or (taken xs l v) i 0 ≡ get_or xs i 0
  taken-under i h = load-under v.count xs l v.at v.width v.from i h

  pub taken_in : v.from + v.count ≤ length xs → Held l v → (i : ℕ) → v.from ≤ i → i < v.from + v.count → get_or (taken xs l v) i 0 ≡ get_or v.values i 0
  taken_in r h i p q =
      let e : i ≡ v.from + (i - v.from) = omega arith in
      rw e (load-in v.count xs l v.at v.width v.from r (i - v.from) (omega arith) ∙ h (i - v.from) (omega arith))

  pub taken-fit : v.from + v.count ≤ length xs → Held l v → (m : ℕ) → ((i : ℕ) → get_or xs i 0 < m) → ((i : ℕ) → get_or v.values i 0 < m)
      → (i : ℕ) → get_or (taken xs l v) i 0 < m
  taken-fit r h m x y i =
      ⊎_elim
      (λ p. ⊎_elim (λ q. rw (load-over v.count xs l v.at v.width v.from i q) (x i)) (λ q. rw (taken_in r h i p q) (y i)) (le-or-lt (v.from + v.count) i))
      (λ p. rw (taken-under i p) (x i))
      (le-or-lt v.from i)
