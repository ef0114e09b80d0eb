-- What stands in general registers and what in memory: the two writes of a value's words. Assumes nothing.
use mathlib.Core.Path.{◌≡◌, refl, sym, ap, ◌∙◌}
use mathlib.Core.Bool.{Bool, true, false}
use mathlib.Core.List.{List, ◌++◌, append_assoc, append-nil}
use Prim.Native.Nat.{ℕ, ◌+◌, ◌-◌, ◌*◌, ◌≤◌, ◌<◌}
use native.Mathlib.Omega.{arith}
use native.Mathlib.Nat.{sub-zero, add-zero}
use borrow.Author.Tests.{ltb-true, ltb-false}
use lib.Dec.{ltb}
use lib.ListN.{length, take, drop, replicate, length-append, length-drop, length-replicate, take-append-drop}
use lib.Seq.{take_all, drop-append-le, length-take-le}
use Rattle.base_words.specs.Splice.{splice, part}
use Rattle.base_words.specs.Numbers.{bytes_of}
use Rattle.base_words.proofs.Splices.{splice-nothing}
use Rattle.base_words.proofs.Numbers.{length-bytes_of}
use Rattle.call_registers.specs.Registers.{spread}
use Rattle.call_registers.proofs.Registers.{spread-take, spread-doublewords}

-- ---- one doubleword
module _ (l a : List ℕ) (g s x : ℕ) (k m : ℕ) (one : 8 * k + m ≡ 8) where
  pub word-general : 0 < k
      → (splice l g (bytes_of 8 x) ≡ splice l g (take (8 * k) (bytes_of 8 x))) × (a ≡ splice a s (part (8 * k) m (bytes_of 8 x)))
  word-general h =
      let e : k ≡ 1 = omega arith in
      let z : m ≡ 0 = omega arith in
      let all : take 8 (bytes_of 8 x) ≡ bytes_of 8 x = take_all 8 (bytes_of 8 x) (omega (arith, length-bytes_of 8 x)) in
      (rw (e, all), rw z (sym (splice-nothing a s)))

  pub word-memory : k ≤ 0
      → (l ≡ splice l g (take (8 * k) (bytes_of 8 x))) × (splice a s (bytes_of 8 x) ≡ splice a s (part (8 * k) m (bytes_of 8 x)))
  word-memory h =
      let e : k ≡ 0 = omega arith in
      let z : m ≡ 8 = omega arith in
      let all : take 8 (bytes_of 8 x) ≡ bytes_of 8 x = take_all 8 (bytes_of 8 x) (omega (arith, length-bytes_of 8 x)) in
      (rw e (sym (splice-nothing l g)), rw (e, z, all))

-- it is put by the rule for words of any width
pub number-plain : (l a i o : List ℕ) (g s x w k m : ℕ) → w ≡ 8 → 8 * k + m ≡ 8
    → (i ≡ splice l g (take (8 * k) (bytes_of 8 x))) × (o ≡ splice a s (part (8 * k) m (bytes_of 8 x)))
    → (i ≡ splice l g (spread w k (bytes_of (w * k + m) x))) × (o ≡ splice a s (part (w * k) m (bytes_of (w * k + m) x)))
number-plain l a i o g s x w k m e one h = rw (e, one, spread-doublewords k (bytes_of 8 x)) h

-- ---- several words, and zeros at their end: k words of w bytes in registers, and m bytes in memory

module _ (l a v : List ℕ) (g s w k m : ℕ) (some : w * k + m < length v + w) (all : length v ≤ w * k + m) (words : 0 < m → w ≤ m) where
  pub bytes-general : length v ≤ w * k
      → (splice l g (spread w k (v ++ replicate (w * k - length v) 0)) ≡ splice l g (spread w k (v ++ replicate (w * k + m - length v) 0)))
      × (a ≡ splice a s (part (w * k) m (v ++ replicate (w * k + m - length v) 0)))
  bytes-general h =
      let z : m ≡ 0 = none (ltb 0 m) refl in
      (rw (z, add-zero (w * k)), rw z (sym (splice-nothing a s)))
    where
      none : (b : Bool) → ltb 0 m ≡ b → m ≡ 0
      none true e = let l = words (ltb-true 0 m e) in absurd (omega arith)
      none false e = let l : m ≤ 0 = ltb-false 0 m e in omega arith

  pub bytes-both : w * k < length v
      → (splice l g (spread w k (part 0 (w * k - 0) v ++ replicate (w * k - length (part 0 (w * k - 0) v)) 0)) ≡ splice l g (spread w k (v ++ replicate (w * k + m - length v) 0)))
      × (splice a s (part (w * k) (length v - w * k) v ++ replicate (m - (length v - w * k)) 0)
      ≡ splice a s (part (w * k) m (v ++ replicate (w * k + m - length v) 0)))
  bytes-both h =
      let e : w * k + m - length v ≡ m - (length v - w * k) = omega arith in
      let n : ℕ = m - (length v - w * k) in
      let first : List ℕ = take (w * k) v in
      let lf : length first ≡ w * k = length-take-le (w * k) v (omega arith) in
      let zero : w * k - length first ≡ 0 = omega arith in
      let pieces : v ++ replicate (w * k + m - length v) 0 ≡ first ++ (drop (w * k) v ++ replicate (w * k + m - length v) 0) =
      ap (λ (u : List ℕ). u ++ replicate (w * k + m - length v) 0) (sym (take-append-drop (w * k) v)) ∙ append_assoc first (drop (w * k) v) (replicate (w * k + m - length v) 0) in
      let d : length (drop (w * k) v) ≡ length v - w * k = length-drop (w * k) v in
      let tail : take (length v - w * k) (drop (w * k) v) ≡ drop (w * k) v = take_all (length v - w * k) (drop (w * k) v) (omega arith) in
      let whole : take m (drop (w * k) v ++ replicate n 0) ≡ drop (w * k) v ++ replicate n 0 =
      take_all m (drop (w * k) v ++ replicate n 0)
      (omega (arith, length-append (drop (w * k) v) (replicate n 0), length-replicate {A = ℕ} n 0)) in (
        ap (splice l g)
            (rw (sub-zero (w * k), zero) (ap (spread w k) (append-nil first))
            ∙ sym (ap (spread w k) pieces ∙ spread-take w k first (drop (w * k) v ++ replicate (w * k + m - length v) 0) (omega arith))),
        rw (e, tail, drop-append-le (w * k) v (replicate n 0) (omega arith), whole),
      )
