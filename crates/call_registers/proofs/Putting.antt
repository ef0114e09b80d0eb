-- Words put in general registers, one after the other, as the loops of `put_each` and `put_number_registers` go. Assumes nothing.
use mathlib.Core.Path.{◌≡◌, refl, sym, ap, ap₂, ◌∙◌}
use mathlib.Core.Bool.{Bool, true, false}
use mathlib.Core.List.{List, ◌++◌, append-nil}
use Prim.Native.Nat.{ℕ, suc, ◌+◌, ◌-◌, ◌*◌, ◌/◌, ◌^◌, ◌≤◌, ◌<◌, min}
use native.Mathlib.Omega.{arith}
use native.Mathlib.Nat.{mul-suc, mul-zero, mul-le-mul_left}
use native.Mathlib.Numerals.{add-one}
use borrow.Author.Tests.{ltb-true, ltb-false}
use lib.Dec.{ltb}
use lib.ListN.{length, take, drop, replicate, length-append, length-drop, length-replicate}
use lib.Seq.{take_all, take-append-le, drop-append-le}
use Rattle.base_words.specs.Splice.{overlay, splice, part}
use Rattle.base_words.specs.Numbers.{bytes_of, zero_extended}
use Rattle.base_words.proofs.Splices.{length-splice, overlay-append}
use Rattle.base_words.proofs.Numbers.{length-bytes_of, bytes_of-middle}
use Rattle.call_registers.specs.Registers.{in_register, spread}
use Rattle.call_registers.proofs.Registers.{length-spread, spread-more, register-number}
use Rattle.call_registers.specs.Helpers.{RegistersTake}

-- one word more of a form
register-more : (s form : List ℕ) (w i : ℕ) → w ≤ 8 → w * i ≤ length form
    → splice (overlay s (spread w i form)) (8 * i) (in_register w (part (w * i) w form)) ≡ overlay s (spread w (i + 1) form)
register-more s form w i h l =
    ap (λ (n : ℕ). splice (overlay s (spread w i form)) n (in_register w (part (w * i) w form))) (sym (length-spread w i form h l))
    ∙ sym (overlay-append s (spread w i form) (in_register w (part (w * i) w form)))
    ∙ ap (overlay s) (sym (spread-more w i form) ∙ ap (λ (n : ℕ). spread w n form) (sym (add-one i)))

-- ---- bytes, and zeros after them

padded-word : (w z : ℕ) (v : List ℕ) → (length v < w → length v + z ≡ w)
    → take w (v ++ replicate z 0) ≡ take (min w (length v)) v ++ replicate (w - min w (length v)) 0
padded-word w z v last = go (ltb (length v) w) refl
  where
    go : (b : Bool) → ltb (length v) w ≡ b → take w (v ++ replicate z 0) ≡ take (min w (length v)) v ++ replicate (w - min w (length v)) 0
    go true e =
        let short : length v < w = ltb-true (length v) w e in
        let all : length v + z ≡ w = last short in
        let m : min w (length v) ≡ length v = omega arith in
        let n : w - length v ≡ z = omega arith in
        rw (m, n, take_all (length v) v (omega arith))
        (take_all w (v ++ replicate z 0) (omega (arith, length-append v (replicate z 0), length-replicate {A = ℕ} z 0)))
    go false e =
        let long : w ≤ length v = ltb-false (length v) w e in
        let m : min w (length v) ≡ w = omega arith in
        let n : w - w ≡ 0 = omega arith in
        rw (m, n) (take-append-le w v (replicate z 0) long ∙ sym (append-nil (take w v)))

module _ (s₀ v : List ℕ) (w k : ℕ) where
  -- v to the end of its words
  abbrev form : List ℕ
  form = v ++ replicate (w * k - length v) 0

  -- i words are put; the next byte of v is `from`
  pub record BytesPut (s : List ℕ) (i from : ℕ) : Type 0 where
    pub most : i ≤ k
    pub size : length s ≡ length s₀
    pub next : from ≡ min (w * i) (length v)
    pub now : s ≡ overlay s₀ (spread w i form)

  module _ (h : RegistersTake w k (length v) (length s₀)) where
    pub bytes-start : BytesPut s₀ 0 0
    unfolding overlay spread
    bytes-start = record { most = omega arith; size = refl; next = omega (arith, mul-zero w); now = refl }

    module _ (s : List ℕ) (i from : ℕ) (t : BytesPut s i from) (some : i < k) where
      -- no word is empty
      before : (w * i < length v) × (w * i + w ≤ w * k)
      before = let m = mul-le-mul_left w some in (omega (arith, mul-suc w i, m), omega (arith, mul-suc w i, m))

      -- nor any but the last short
      last : length v < w * i + w → w * k ≡ w * i + w
      last short = go (ltb (suc i) k) refl
        where
          go : (b : Bool) → ltb (suc i) k ≡ b → w * k ≡ w * i + w
          go true e =
              let l : suc (suc i) ≤ k = ltb-true (suc i) k e in
              absurd (omega (arith, mul-suc w i, mul-suc w (suc i), mul-le-mul_left w l))
          go false e =
              let l : k ≤ suc i = ltb-false (suc i) k e in
              omega (arith, before, mul-suc w i, mul-le-mul_left w l)

      abbrev to : ℕ
      to = min (from + w) (length v)

      pub bytes-from : from ≡ w * i
      bytes-from = omega (arith, t.next, before)

      pub bytes-piece : (from ≤ to) × (to ≤ length v) × (to - from ≤ w)
      bytes-piece = let e = bytes-from in let b = before in (omega arith, omega arith, omega arith)

      piece-word : part from (to - from) v ++ replicate (w - (to - from)) 0 ≡ part (w * i) w form
      piece-word =
          let e = bytes-from in
          let b = before in
          let u : List ℕ = drop (w * i) v in
          let lu : length u ≡ length v - w * i = length-drop (w * i) v in
          let m : to - from ≡ min w (length u) = omega (arith, lu) in
          rw (m, e)
          (sym (padded-word w (w * k - length v) u (λ short. omega (arith, lu, last (omega (arith, lu)))))
          ∙ ap (take w) (sym (drop-append-le (w * i) v (replicate (w * k - length v) 0) (omega arith))))

      pub bytes-more : BytesPut (splice s (8 * i) (in_register w (part from (to - from) v ++ replicate (w - (to - from)) 0))) (i + 1) to
      bytes-more =
          let b = before in
          let e = bytes-from in
          let lf : w * i ≤ length form = omega (arith, length-append v (replicate (w * k - length v) 0)) in
          record {
            most = omega arith;
            size = length-splice s (8 * i) _ ∙ t.size;
            next = omega (arith, mul-suc w i, add-one i, ap (λ (n : ℕ). w * n) (add-one i));
            now =
                ap₂ (λ (a c : List ℕ). splice a (8 * i) (in_register w c)) t.now piece-word
                ∙ register-more s₀ form w i h.1 lf;
          }

    pub bytes-end : (s : List ℕ) (i from : ℕ) → BytesPut s i from → k ≤ i → s ≡ overlay s₀ (spread w k form)
    bytes-end s i from t l =
        let e : i ≡ k = omega (arith, t.most) in
        t.now ∙ ap (λ (n : ℕ). overlay s₀ (spread w n form)) e

-- ---- a number

module _ (s₀ : List ℕ) (w k room x : ℕ) where
  -- i words are put; `rest` bytes are left
  pub record NumberPut (s : List ℕ) (i rest : ℕ) : Type 0 where
    pub most : i ≤ k
    pub size : length s ≡ length s₀
    pub left : w * i + rest ≡ room
    pub now : s ≡ overlay s₀ (spread w i (bytes_of room x))

  module _ (most : w ≤ 8) (all : w * k ≤ room) where
    pub number-start : NumberPut s₀ 0 room
    unfolding overlay spread
    number-start = record { most = omega arith; size = refl; left = omega (arith, mul-zero w); now = refl }

    module _ (s : List ℕ) (i rest : ℕ) (t : NumberPut s i rest) (some : i < k) where
      pub number-room : w ≤ rest
      number-room = omega (arith, t.left, mul-suc w i, mul-le-mul_left w some)

      pub number_more : NumberPut (splice s (8 * i) (bytes_of 8 (zero_extended w (x / 2 ^ (8 * (rest - w)))))) (i + 1) (rest - w)
      number_more =
          let r = number-room in
          let l = t.left in
          let e : w * i + (w + (rest - w)) ≡ room = omega arith in
          let word : bytes_of 8 (zero_extended w (x / 2 ^ (8 * (rest - w)))) ≡ in_register w (part (w * i) w (bytes_of room x)) =
          register-number w (x / 2 ^ (8 * (rest - w))) most
          ∙ ap (in_register w) (sym (bytes_of-middle (w * i) w (rest - w) x) ∙ ap (λ (n : ℕ). part (w * i) w (bytes_of n x)) e) in
          record {
            most = omega arith;
            size = length-splice s (8 * i) _ ∙ t.size;
            left = omega (arith, mul-suc w i, ap (λ (n : ℕ). w * n) (add-one i));
            now = ap₂ (λ (a c : List ℕ). splice a (8 * i) c) t.now word ∙ register-more s₀ (bytes_of room x) w i most (omega (arith, length-bytes_of room x));
          }

    pub number-end : (s : List ℕ) (i rest : ℕ) → NumberPut s i rest → k ≤ i → s ≡ overlay s₀ (spread w k (bytes_of room x))
    number-end s i rest t l =
        let e : i ≡ k = omega (arith, t.most) in
        t.now ∙ ap (λ (n : ℕ). overlay s₀ (spread w n (bytes_of room x))) e
