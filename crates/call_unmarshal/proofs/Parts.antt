-- Parts of the words of an argument, whose first ones stand in general registers and the others in memory. Assumes nothing.
use mathlib.Core.Path.{◌≡◌, sym, ap₂, ◌∙◌}
use mathlib.Core.List.{List, ◌++◌, append-nil}
use Prim.Native.Nat.{ℕ, ◌+◌, ◌-◌, ◌*◌, ◌≤◌, ◌<◌}
use native.Mathlib.Omega.{arith}
use lib.ListN.{length, take, drop, length-drop}
use lib.Seq.{take_all, take-take}
use Rattle.base_words.specs.Splice.{part}
use Rattle.base_words.proofs.Splices.{part-part, part-first, part-second, part-both}

-- ---- the words: a in registers, m bytes at s of the area

module _ (a area : List ℕ) (s m : ℕ) where
  pub own-registers : (lo n : ℕ) → lo + n ≤ length a → part lo n a ≡ part lo n (a ++ part s m area)
  own-registers lo n h = sym (part-first a (part s m area) lo n h)

  pub own-memory : (lo n : ℕ) → length a ≤ lo → lo + n ≤ length a + m → part (s + (lo - length a)) n area ≡ part lo n (a ++ part s m area)
  own-memory lo n h t = sym (part-second a (part s m area) lo n h ∙ part-part s m (lo - length a) n area (omega arith))

  pub own-both : (lo n : ℕ) → lo ≤ length a → length a ≤ lo + n → lo + n ≤ length a + m
      → part lo (length a - lo) a ++ part s (n - (length a - lo)) area ≡ part lo n (a ++ part s m area)
  own-both lo n h t u =
      let first : part lo (length a - lo) a ≡ drop lo a = take_all (length a - lo) (drop lo a) (omega (arith, length-drop lo a)) in
      let second : take (n - (length a - lo)) (part s m area) ≡ part s (n - (length a - lo)) area = take-take (n - (length a - lo)) m (drop s area) (omega arith) in
      ap₂ (λ (x y : List ℕ). x ++ y) first (sym second) ∙ sym (part-both a (part s m area) lo n h t)

-- ---- one doubleword

pub word-registers : (image area : List ℕ) (g s k m : ℕ) → 8 * k + m ≡ 8 → 0 < k → part g 8 image ≡ part g (8 * k) image ++ part s m area
word-registers image area g s k m e h =
    let one : k ≡ 1 = omega arith in
    let none : m ≡ 0 = omega arith in
    rw (one, none) (sym (append-nil (part g 8 image)))

pub word-memory : (image area : List ℕ) (g s k m : ℕ) → 8 * k + m ≡ 8 → k ≤ 0 → part s 8 area ≡ part g (8 * k) image ++ part s m area
word-memory image area g s k m e h =
    let no : k ≡ 0 = omega arith in
    let all : m ≡ 8 = omega arith in
    rw (no, all)
