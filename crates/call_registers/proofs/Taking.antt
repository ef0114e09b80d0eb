-- Bytes of words taken out of general registers, word by word, as the loop of `take_each` goes. Assumes nothing.
use mathlib.Core.Path.{◌≡◌, refl, sym, ap, ◌∙◌}
use mathlib.Core.List.{List, ◌++◌}
use Prim.Native.Nat.{ℕ, suc, ◌+◌, ◌-◌, ◌*◌, ◌≤◌, ◌<◌, min}
use native.Mathlib.Omega.{arith}
use native.Mathlib.Nat.{mul-suc, mul-zero}
use lib.ListN.{length}
use Rattle.base_words.specs.Splice.{overlay, splice, part}
use Rattle.base_words.proofs.Splices.{length-splice, length_part, part-add, part-part, overlay-append}
use Rattle.base_words.proofs.Basics.{word-before}
use Rattle.call_registers.specs.Registers.{gather}
use Rattle.call_registers.specs.Helpers.{RegistersHold}
use Rattle.call_registers.proofs.Registers.{gather-part, length-gather}

module _ (out₀ image : List ℕ) (w first k lo n : ℕ) where
  -- the words in the registers
  abbrev words : List ℕ
  words = gather w k (part (8 * first) (8 * k) image)

  -- `done` bytes are taken; the next is the byte `passed` of a register's word
  pub record Taking (out : List ℕ) (done register passed : ℕ) : Type 0 where
    pub most : done ≤ n
    pub size : length out ≡ length out₀
    pub from : first ≤ register
    pub next : done < n → (lo + done ≡ w * (register - first) + passed) × (passed < w) × (register < first + k)
    pub now : out ≡ overlay out₀ (part lo done words)

  module _ (h : RegistersHold w first k lo n (length image)) (room : n ≤ length out₀) where
    pub taking-start : Taking out₀ 0 first lo
    unfolding overlay
    taking-start =
        let z : first - first ≡ 0 = omega arith in
        let at : 0 < n → lo + 0 ≡ w * (first - first) + lo = λ some. rw z (omega (arith, mul-zero w)) in
        record {
          most = omega arith;
          size = refl;
          from = omega arith;
          next = λ some. (at some, omega arith, omega (arith, word-before w 0 k lo (omega (arith, mul-zero w))));
          now = refl;
        }

    module _ (out : List ℕ) (done register passed : ℕ) (t : Taking out done register passed) (some : done < n) where
      abbrev step : ℕ
      step = min (w - passed) (n - done)

      -- the bytes lie in the image
      pub taking-inside : 8 * register + (8 - w) + passed + step ≤ length image
      taking-inside = omega (arith, t.next some)

      pub taking-less : n - (done + step) < n - done
      taking-less = let q = t.next some in let l : 0 < step = omega (arith, q.1) in omega arith

      -- they are the next of the words
      taken-part : part (lo + done) step words ≡ part (8 * register + (8 - w) + passed) step image
      taken-part =
          let q = t.next some in
          let j : ℕ = register - first in
          let bs : List ℕ = part (8 * first) (8 * k) image in
          let size : length bs ≡ 8 * k = length_part (8 * first) (8 * k) image (omega arith) in
          let e : 8 * first + (8 * j + (8 - w) + passed) ≡ 8 * register + (8 - w) + passed = omega (arith, t.from) in
          ap (λ (i : ℕ). part i step words) q.0
          ∙ gather-part w k j passed step bs h.1 (omega (arith, t.from)) (omega arith) (omega arith)
          ∙ part-part (8 * first) (8 * k) (8 * j + (8 - w) + passed) step image (omega (arith, t.from))
          ∙ ap (λ (i : ℕ). part i step image) e

      taken-size : length (part lo done words) ≡ done
      taken-size =
          let bs : List ℕ = part (8 * first) (8 * k) image in
          let size : length bs ≡ 8 * k = length_part (8 * first) (8 * k) image (omega arith) in
          length_part lo done words (omega (arith, length-gather w k bs h.1 (omega arith)))

      pub taking-more : Taking (splice out done (part (8 * register + (8 - w) + passed) step image)) (done + step) (register + 1) 0
      taking-more =
          let q = t.next some in
          let from = t.from in
          let bs : List ℕ = part (8 * register + (8 - w) + passed) step image in
          let j : register + 1 - first ≡ suc (register - first) = omega arith in
          let next : done + step < n → lo + (done + step) ≡ w * (register + 1 - first) + 0 =
          λ more. rw j (omega (arith, mul-suc w (register - first))) in
          let now : splice out done bs ≡ overlay out₀ (part lo (done + step) words) =
          ap (λ (l : List ℕ). splice l done bs) t.now
          ∙ ap (λ (i : ℕ). splice (overlay out₀ (part lo done words)) i bs) (sym taken-size)
          ∙ sym (overlay-append out₀ (part lo done words) bs)
          ∙ ap (λ (l : List ℕ). overlay out₀ (part lo done words ++ l)) (sym taken-part)
          ∙ ap (overlay out₀) (sym (part-add lo done step words)) in
          record {
            most = omega arith;
            size = length-splice out done bs ∙ t.size;
            from = omega arith;
            next = λ more. (next more, omega arith, omega (arith, word-before w (register + 1 - first) k 0 (omega (arith, next more))));
            now = now;
          }

    pub taking-end : (out : List ℕ) (done register passed : ℕ) → Taking out done register passed → n ≤ done → out ≡ overlay out₀ (part lo n words)
    taking-end out done register passed t l =
        let e : done ≡ n = omega (arith, t.most) in
        t.now ∙ ap (λ (i : ℕ). overlay out₀ (part lo i words)) e
