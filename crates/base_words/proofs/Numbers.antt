-- The laws of numbers as bytes: lengths and bounds, a number and its bytes back, numbers and bytes end to end, numbers in memory, and the two extensions.
-- Assumes nothing.
use mathlib.Core.Path.{◌≡◌, refl, sym, ap, ap₂, subst, ◌∙◌}
use mathlib.Core.List.{List, [], ◌∷◌, ◌++◌}
use Prim.Native.Nat.{ℕ, zero, suc, ◌+◌, ◌-◌, ◌*◌, ◌/◌, ◌%◌, ◌^◌, ◌≤◌, ◌<◌}
use native.Mathlib.Nat.{mul-suc, mul-add, mul_assoc, add-mul, add_assoc, mod-one, mod-lt, div-eq_of_lt, div-eq_of_lt-le, mod-eq_of_lt, mul-le-mul_right, mul-le-mul_left, mul_left_comm, mul-add-mod_self_right, mul-add-div_right, mul-sub, one-mul, zero-add, zero-mul, suc-add}
use native.Mathlib.Omega.{arith}
use lib.Dec.{ltb}
use lib.ListN.{length, take, drop, replicate, length-append, length-replicate}
use lib.Seq.{take_at, take_all, drop_at}
use lib.Pow.{pow_pos, pow_mono, pow-add, mod-pow-add, high, split, field, shr-shr, high_ones}
use Rattle.base_words.specs.Splice.{overlay, splice, part}
use Rattle.base_words.specs.Numbers.{Bytes, bytes_of, value_of, zero_extended, sign_bit, sign_extended}
use Rattle.base_words.proofs.Basics.{same-ltb}
use Rattle.base_words.proofs.Splices.{splice-same}
use Rattle.base_words.proofs.Fitting.{fit-replicate, fit_append, fit-take, fit-drop}

-- the range of one byte more
pub wider : (n : ℕ) → 2 ^ (8 * suc n) ≡ 256 * 2 ^ (8 * n)
wider n = rw (mul-suc 8 n, pow-add 2 (8 * n) 8) (omega arith)

-- ---- lengths and bounds

pub length-bytes_of : (n x : ℕ) → length (bytes_of n x) ≡ n
unfolding bytes_of
length-bytes_of zero x = refl
length-bytes_of (suc n) x = ap suc (length-bytes_of n x)

pub bytes-bytes_of : (n x : ℕ) → Bytes (bytes_of n x)
unfolding bytes_of
bytes-bytes_of zero x i = omega arith
bytes-bytes_of (suc n) x zero = omega arith
bytes-bytes_of (suc n) x (suc i) = bytes-bytes_of n x i

pub bytes-none : Bytes []
bytes-none i = omega arith

pub bytes-cons : (x : ℕ) (l : List ℕ) → x < 256 → Bytes l → Bytes (x ∷ l)
bytes-cons x l h b zero = h
bytes-cons x l h b (suc i) = b i

pub bytes-replicate : (n b : ℕ) → b < 256 → Bytes (replicate n b)
bytes-replicate n b h = fit-replicate n b 256 h

pub bytes-append : (a b : List ℕ) → Bytes a → Bytes b → Bytes (a ++ b)
bytes-append a b ha hb = fit_append a b 256 ha hb

pub bytes_drop : (n : ℕ) (l : List ℕ) → Bytes l → Bytes (drop n l)
bytes_drop n l h = fit-drop n l 256 h

pub bytes-part : (n m : ℕ) (l : List ℕ) → Bytes l → Bytes (part n m l)
bytes-part n m l h = fit-take m (drop n l) 256 (bytes_drop n l h)

bytes-overlay : (l bs : List ℕ) → Bytes l → Bytes bs → Bytes (overlay l bs)
unfolding overlay
bytes-overlay l [] hl hb i = hl i
bytes-overlay [] (b ∷ bs) hl hb i = hl i
bytes-overlay (x ∷ l) (b ∷ bs) hl hb zero = hb 0
bytes-overlay (x ∷ l) (b ∷ bs) hl hb (suc i) = bytes-overlay l bs (λ j. hl (suc j)) (λ j. hb (suc j)) i

pub bytes-splice : (l : List ℕ) (n : ℕ) (bs : List ℕ) → Bytes l → Bytes bs → Bytes (splice l n bs)
unfolding splice
bytes-splice l zero bs hl hb i = bytes-overlay l bs hl hb i
bytes-splice [] (suc n) bs hl hb i = hl i
bytes-splice (x ∷ l) (suc n) bs hl hb zero = hl 0
bytes-splice (x ∷ l) (suc n) bs hl hb (suc i) = bytes-splice l n bs (λ j. hl (suc j)) hb i

pub value-below : (bs : List ℕ) → Bytes bs → value_of bs < 2 ^ (8 * length bs)
unfolding value_of
value-below [] h = omega arith
value-below (b ∷ bs) h =
    let first : b ≤ 255 = omega (arith, h 0) in
    rw (wider (length bs)) (omega (arith, mul-le-mul_right (2 ^ (8 * length bs)) first, value-below bs (λ i. h (suc i))))

-- ---- a number and its bytes back

pub value-bytes_of : (n x : ℕ) → value_of (bytes_of n x) ≡ x % 2 ^ (8 * n)
unfolding bytes_of value_of
value-bytes_of zero x = sym (mod-one x)
value-bytes_of (suc n) x =
    let e : 8 + 8 * n ≡ 8 * suc n = omega (arith, mul-suc 8 n) in
    ap₂ (λ (w v : ℕ). x / 2 ^ (8 * n) % 256 * 2 ^ (8 * w) + v) (length-bytes_of n x) (value-bytes_of n x)
    ∙ sym (mod-pow-add x 8 (8 * n)) ∙ ap (λ (k : ℕ). x % 2 ^ k) e

pub value-back : (n x : ℕ) → x < 2 ^ (8 * n) → value_of (bytes_of n x) ≡ x
value-back n x h = value-bytes_of n x ∙ mod-eq_of_lt h

-- the n lowest bytes are the same whatever stands above them
pub bytes_of-low : (n hi x : ℕ) → bytes_of n (hi * 2 ^ (8 * n) + x) ≡ bytes_of n x
unfolding bytes_of
bytes_of-low zero hi x = refl
bytes_of-low (suc n) hi x =
    let e : hi * 2 ^ (8 * suc n) ≡ hi * 256 * 2 ^ (8 * n) = rw (wider n) (sym (mul_assoc hi 256 (2 ^ (8 * n)))) in
    rw (e, bytes_of-low n (hi * 256) x, mul-add-div_right (pow_pos (8 * n)) (hi * 256) x, mul-add-mod_self_right hi 256 (x / 2 ^ (8 * n)))

pub bytes_of-value : (bs : List ℕ) → Bytes bs → bytes_of (length bs) (value_of bs) ≡ bs
unfolding bytes_of value_of
bytes_of-value [] h = refl
bytes_of-value (b ∷ bs) h =
    let rest : Bytes bs = λ i. h (suc i) in
    rw (high b (8 * length bs) (value-below bs rest), mod-eq_of_lt (h 0), bytes_of-low (length bs) b (value_of bs), bytes_of-value bs rest)

-- bytes whose number is known
pub value-fits : (n : ℕ) (bs : List ℕ) → length bs ≡ n → Bytes bs → value_of bs < 2 ^ (8 * n)
value-fits n bs e h = subst (λ (m : ℕ). value_of bs < 2 ^ (8 * m)) e (value-below bs h)

pub bytes_of-back : (n : ℕ) (bs : List ℕ) → length bs ≡ n → Bytes bs → bytes_of n (value_of bs) ≡ bs
bytes_of-back n bs e h = ap (λ (m : ℕ). bytes_of m (value_of bs)) (sym e) ∙ bytes_of-value bs h

-- ---- end to end

pub value-append : (a b : List ℕ) → value_of (a ++ b) ≡ value_of a * 2 ^ (8 * length b) + value_of b
unfolding value_of
value-append [] b = omega arith
value-append (x ∷ a) b = rw (length-append a b, mul-add 8 (length a) (length b), pow-add 2 (8 * length a) (8 * length b), value-append a b, add-mul, mul_assoc, add_assoc)

pub bytes_of-append : (m n x : ℕ) → bytes_of (m + n) x ≡ bytes_of m (x / 2 ^ (8 * n)) ++ bytes_of n x
unfolding bytes_of
bytes_of-append zero n x = rw (zero-add n)
bytes_of-append (suc m) n x =
    let e : 8 * n + 8 * m ≡ 8 * (m + n) = omega (arith, mul-add 8 m n) in
    rw (suc-add m n, shr-shr x (8 * n) (8 * m), e) (ap (λ (t : List ℕ). x / 2 ^ (8 * (m + n)) % 256 ∷ t) (bytes_of-append m n x))

-- of a number's bytes, the w after the first k
pub bytes_of-middle : (k w rest x : ℕ) → part k w (bytes_of (k + (w + rest)) x) ≡ bytes_of w (x / 2 ^ (8 * rest))
bytes_of-middle k w rest x =
    ap (part k w) (bytes_of-append k (w + rest) x)
    ∙ ap (take w) (drop_at (bytes_of k (x / 2 ^ (8 * (w + rest)))) (bytes_of (w + rest) x) k (length-bytes_of k _) ∙ bytes_of-append w rest x)
    ∙ take_at (bytes_of w (x / 2 ^ (8 * rest))) (bytes_of rest x) w (length-bytes_of w _)

-- and the last m
pub bytes_of-last : (k m x : ℕ) → part k m (bytes_of (k + m) x) ≡ bytes_of m x
bytes_of-last k m x =
    ap (part k m) (bytes_of-append k m x)
    ∙ ap (take m) (drop_at (bytes_of k (x / 2 ^ (8 * m))) (bytes_of m x) k (length-bytes_of k _))
    ∙ take_all m (bytes_of m x) (omega (arith, length-bytes_of m x))

-- ---- in memory

-- a number that was stored is loaded again
pub load-after-store : (l : List ℕ) (at n x : ℕ) → at + n ≤ length l → x < 2 ^ (8 * n) → value_of (part at n (splice l at (bytes_of n x))) ≡ x
load-after-store l at n x room small =
    let e : length (bytes_of n x) ≡ n = length-bytes_of n x in
    let same : part at (length (bytes_of n x)) (splice l at (bytes_of n x)) ≡ bytes_of n x = splice-same l at (bytes_of n x) (omega arith) in
    ap value_of (rw e at same) ∙ value-back n x small

-- ---- extension

pub zero_extended-below : (n x : ℕ) → zero_extended n x < 2 ^ (8 * n)
unfolding zero_extended
zero_extended-below n x = mod-lt x (pow_pos (8 * n))

-- a number is more than its lowest bytes exactly where it has more bytes than these
pub zero_extended-less : (n x : ℕ) → ltb (zero_extended n x) x ≡ ltb (2 ^ (8 * n) - 1) x
unfolding zero_extended
zero_extended-less n x =
    same-ltb (x % 2 ^ (8 * n)) x (2 ^ (8 * n) - 1) x (λ h. omega (arith, mod-lt x (pow_pos (8 * n)), pow_pos (8 * n)))
    (λ h. let low : x < 2 ^ (8 * n) = omega (arith, pow_pos (8 * n)) in rw (mod-eq_of_lt low) (omega arith))

pub sign_extended-below : (n x : ℕ) → n ≤ 8 → sign_extended n x < 2 ^ 64
unfolding sign_extended sign_bit
sign_extended-below n x h =
    let sign : sign_bit n x ≤ 1 = omega arith in
    let narrow : 8 * n ≤ 64 = omega arith in
    omega (arith, mul-le-mul_right (2 ^ 64 - 2 ^ (8 * n)) sign, zero_extended-below n x, pow_mono narrow)

-- the range of n bytes in two halves
pub halves : (n : ℕ) → 1 ≤ n → 2 ^ (8 * n) ≡ 2 * 2 ^ (8 * n - 1)
halves n h = let e : 8 * n ≡ 1 + (8 * n - 1) = omega arith in ap (λ (k : ℕ). 2 ^ k) e ∙ pow-add 2 1 (8 * n - 1)

-- the sign tells the halves apart
sign-is : (n x : ℕ) → 1 ≤ n → sign_bit n x ≡ zero_extended n x / 2 ^ (8 * n - 1)
unfolding sign_bit zero_extended
sign-is n x h =
    let e : 1 + (8 * n - 1) ≡ 8 * n = omega arith in
    sym (field x 1 (8 * n - 1)) ∙ ap (λ (k : ℕ). x % 2 ^ k / 2 ^ (8 * n - 1)) e

-- two's complement: a number in the lower half of its range stays, one in the upper half stands as far below 2 ^ 64 as it stood below the end of its range
pub sign_extended-positive : (n x : ℕ) → 1 ≤ n → zero_extended n x < 2 ^ (8 * n - 1) → sign_extended n x ≡ zero_extended n x
unfolding sign_extended
sign_extended-positive n x h small = rw (sign-is n x h, div-eq_of_lt small, zero-mul, zero-add)

pub sign_extended-negative : (n x : ℕ) → 1 ≤ n → 2 ^ (8 * n - 1) ≤ zero_extended n x → sign_extended n x ≡ 2 ^ 64 - 2 ^ (8 * n) + zero_extended n x
unfolding sign_extended
sign_extended-negative n x h large =
    let one : zero_extended n x / 2 ^ (8 * n - 1) ≡ 1 = div-eq_of_lt-le (2 ^ (8 * n - 1)) (omega arith) (omega (arith, halves n h, zero_extended-below n x)) in
    rw (sign-is n x h, one, one-mul)

-- the bytes above the n lowest, as a number of their own
sign_extended-high : (n x : ℕ) → n ≤ 8 → sign_extended n x ≡ sign_bit n x * (2 ^ (8 * (8 - n)) - 1) * 2 ^ (8 * n) + zero_extended n x
unfolding sign_extended
sign_extended-high n x h =
    let e : 64 ≡ 8 * (8 - n) + 8 * n = omega arith in
    let above : 2 ^ 64 - 2 ^ (8 * n) ≡ (2 ^ (8 * (8 - n)) - 1) * 2 ^ (8 * n) = ap (λ (k : ℕ). 2 ^ k - 2 ^ (8 * n)) e ∙ high_ones (8 * (8 - n)) (8 * n) in
    rw (above, mul_assoc)

-- m bytes that are all zeros, or all ones
value-fill : (m s : ℕ) → value_of (replicate m (255 * s)) ≡ s * (2 ^ (8 * m) - 1)
unfolding value_of
value-fill zero s = omega arith
value-fill (suc m) s =
    let e : 2 ^ (8 * length {A = ℕ} (replicate m (255 * s))) ≡ 2 ^ (8 * m) = rw (length-replicate {A = ℕ} m (255 * s)) in
    let w : ℕ = 2 ^ (8 * m) in
    rw (wider m, mul-sub s (256 * w) 1, e, value-fill m s, mul-sub s w 1)
    (omega (arith, mul-le-mul_left s (pow_pos (8 * m)), mul_assoc 255 s w, mul_left_comm s 256 w))

pub value-zeros : (m : ℕ) → value_of (replicate m 0) ≡ 0
value-zeros m = value-fill m 0 ∙ zero-mul (2 ^ (8 * m) - 1)

-- they stand above the n lowest bytes of x, eight in all
doubleword-filled : (n s x : ℕ) → n ≤ 8 → s < 2 → bytes_of 8 (s * (2 ^ (8 * (8 - n)) - 1) * 2 ^ (8 * n) + zero_extended n x) ≡ replicate (8 - n) (255 * s) ++ bytes_of n x
unfolding zero_extended
doubleword-filled n s x h t =
    let bs : List ℕ = replicate (8 - n) (255 * s) ++ bytes_of n x in
    let eight : length bs ≡ 8 = simp (length-append, length-replicate, length-bytes_of) (omega arith) in
    let bytes : Bytes bs = bytes-append (replicate (8 - n) (255 * s)) (bytes_of n x) (bytes-replicate (8 - n) (255 * s) (omega arith)) (bytes-bytes_of n x) in
    let value : value_of bs ≡ s * (2 ^ (8 * (8 - n)) - 1) * 2 ^ (8 * n) + x % 2 ^ (8 * n) = rw (value-append, length-bytes_of, value-bytes_of, value-fill) in
    ap₂ bytes_of (sym eight) (sym value) ∙ bytes_of-value bs bytes

-- the n lowest bytes of an extended number are the n lowest bytes of the number
pub bytes_of-zero_extended : (n x : ℕ) → bytes_of n (zero_extended n x) ≡ bytes_of n x
unfolding zero_extended
bytes_of-zero_extended n x = sym (bytes_of-low n (x / 2 ^ (8 * n)) (x % 2 ^ (8 * n))) ∙ ap (bytes_of n) (split x (8 * n))

pub bytes_of-sign_extended : (n x : ℕ) → n ≤ 8 → bytes_of n (sign_extended n x) ≡ bytes_of n x
bytes_of-sign_extended n x h = rw (sign_extended-high n x h, bytes_of-low) (bytes_of-zero_extended n x)

-- all eight bytes of an extended number: zeros above, or the sign's byte, 0 or 255
pub doubleword-zero_extended : (n x : ℕ) → n ≤ 8 → bytes_of 8 (zero_extended n x) ≡ replicate (8 - n) 0 ++ bytes_of n x
doubleword-zero_extended n x h =
    let e : zero_extended n x ≡ 0 * (2 ^ (8 * (8 - n)) - 1) * 2 ^ (8 * n) + zero_extended n x = rw (zero-mul, zero-mul, zero-add) in
    ap (bytes_of 8) e ∙ doubleword-filled n 0 x h (omega arith)

pub doubleword-sign_extended : (n x : ℕ) → n ≤ 8 → bytes_of 8 (sign_extended n x) ≡ replicate (8 - n) (255 * sign_bit n x) ++ bytes_of n x
unfolding sign_bit
doubleword-sign_extended n x h = ap (bytes_of 8) (sign_extended-high n x h) ∙ doubleword-filled n (sign_bit n x) x h (omega arith)
