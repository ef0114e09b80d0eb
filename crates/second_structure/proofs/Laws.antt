-- A law for each way through a definition. Assumes nothing.
use mathlib.Core.Path.{◌≡◌, refl}
use mathlib.Core.Bool.{Bool, true, false}
use mathlib.Core.Logic.{◌⊎◌, inl, inr}
use Prim.Native.Nat.{ℕ, zero, suc, ◌+◌, ◌-◌, ◌/◌, ◌≤◌, ◌<◌}
use native.Mathlib.Omega.{arith}
use native.Mathlib.Nat.{mul-div_cancel, div-le_self}
use borrow.Author.Tests.{le-leb, lt-leb, lt-ltb, le-ltb, ltb-false}
use lib.Dec.{ltb}
use Rattle.base_words.specs.Basics.{pick, round_up}
use Rattle.second_parameters.specs.declared.Run.{Run}
use Rattle.second_parameters.specs.Values.{no_run}
use Rattle.second_structure.specs.Structure.{words_in, over_words, over_floats, over_nothing, fprs_from, laid_over, straddles}

-- ---- words

-- of n bytes, as many words as it takes to hold them
pub words-counted : (w n : ℕ) → 0 < w → words_in w n ≡ (n + (w - 1)) / w
unfolding words_in round_up
words-counted w n h = mul-div_cancel ((n + (w - 1)) / w) h

pub words-few : (w n : ℕ) → 0 < w → w ≤ 8 → n ≤ 256 → words_in w n ≤ 264
words-few w n h k s = rw (words-counted w n h) (omega (arith, div-le_self (n + (w - 1)) w))

-- ---- registers over a field

pub laid-words : (o : Bool) (w k m : ℕ) (f : Run) → k ≡ 0 → laid_over o w k m f ≡ over_words w no_run f
unfolding laid_over
laid-words o w k m f h = rw h

-- no FPR is left
pub laid-nothing : (o : Bool) (w k m : ℕ) (f : Run) → o ≡ false → (k ≡ 0 → ⊥) → 13 < m + k → laid_over o w k m f ≡ over_nothing w f
unfolding laid_over
laid-nothing o w zero m f e h l = absurd (h refl)
laid-nothing o w (suc k) m f e h l = rw (e, lt-leb (m + suc k) 13 l)

pub laid-open : (o : Bool) (w k m : ℕ) (f : Run) → o ≡ true → (k ≡ 0 → ⊥) → 13 < m + k → laid_over o w k m f ≡ over_words w no_run f
unfolding laid_over
laid-open o w zero m f e h l = absurd (h refl)
laid-open o w (suc k) m f e h l = rw (e, lt-leb (m + suc k) 13 l)

-- all that it asks for
pub laid-floats : (o : Bool) (w k m : ℕ) (f : Run) → o ≡ false → (k ≡ 0 → ⊥) → m + k ≤ 13 → laid_over o w k m f ≡ over_floats w (fprs_from m k) f
unfolding laid_over
laid-floats o w zero m f e h l = absurd (h refl)
laid-floats o w (suc k) m f e h l = rw (e, le-leb (m + suc k) 13 l)

pub laid_both : (o : Bool) (w k m : ℕ) (f : Run) → o ≡ true → (k ≡ 0 → ⊥) → m + k ≤ 13 → laid_over o w k m f ≡ over_words w (fprs_from m k) f
unfolding laid_over
laid_both o w zero m f e h l = absurd (h refl)
laid_both o w (suc k) m f e h l = rw (e, le-leb (m + suc k) 13 l)

-- ---- straddling

pub straddles-some : (m k : ℕ) → m < 13 → ltb 13 (m + k) ≡ straddles m k
straddles-some m k h = rw (lt-ltb m 13 h)

pub straddles-none : (m k : ℕ) → 13 ≤ m → false ≡ straddles m k
straddles-none m k h = rw (le-ltb m 13 h)

-- what the test tells: all of the FPRs are there, or none is
pub straddles-not : (m k : ℕ) → straddles m k ≡ false → (m + k ≤ 13) ⊎ (13 ≤ m)
straddles-not m k = go (ltb m 13) refl
  where
    go : (b : Bool) → ltb m 13 ≡ b → pick b (ltb 13 (m + k)) false ≡ false → (m + k ≤ 13) ⊎ (13 ≤ m)
    go true q e = inl (ltb-false 13 (m + k) e)
    go false q e = inr (ltb-false m 13 q)
