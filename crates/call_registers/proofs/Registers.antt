-- The laws of words in general registers: lengths, one word more, a word's own bytes, the words back, and that nothing changes where a
-- word is a doubleword. Over any width w of at most 8 bytes. Assumes nothing.
use mathlib.Core.Path.{◌≡◌, refl, sym, ap, ap₂, ◌∙◌}
use mathlib.Core.List.{List, ◌++◌, append_assoc, append-nil}
use Prim.Native.Nat.{ℕ, zero, suc, ◌+◌, ◌-◌, ◌*◌, ◌≤◌, ◌<◌}
use native.Mathlib.Omega.{arith}
use native.Mathlib.Nat.{mul-suc, mul-zero}
use lib.ListN.{length, take, drop, replicate, length-append, length-take, length-drop, length-replicate}
use lib.Seq.{length-take-le, take_all, take_at, drop_at, drop-drop, take-add, take-append-le, drop-append-le, drop-append-add}
use Rattle.base_words.specs.Splice.{part}
use Rattle.base_words.specs.Numbers.{bytes_of, zero_extended}
use Rattle.base_words.proofs.Splices.{length_part, part-part}
use Rattle.base_words.proofs.Numbers.{doubleword-zero_extended}
use Rattle.call_registers.specs.Registers.{in_register, spread, gather}

-- ---- lengths

length-register : (w : ℕ) (bs : List ℕ) → length (in_register w bs) ≡ 8 - w + length bs
length-register w bs = omega (arith, length-append (replicate (8 - w) 0) bs, length-replicate {A = ℕ} (8 - w) 0)

-- never more than the registers' bytes
pub spread-short : (w k : ℕ) (bs : List ℕ) → w ≤ 8 → length (spread w k bs) ≤ 8 * k
unfolding spread
spread-short w zero bs h = omega arith
spread-short w (suc k) bs h =
    let first = length-append (in_register w (take w bs)) (spread w k (drop w bs)) in
    omega (arith, first, length-register w (take w bs), length-take w bs, spread-short w k (drop w bs) h)

pub length-spread : (w k : ℕ) (bs : List ℕ) → w ≤ 8 → w * k ≤ length bs → length (spread w k bs) ≡ 8 * k
unfolding spread
length-spread w zero bs h l = refl
length-spread w (suc k) bs h l =
    let m = mul-suc w k in
    let first = length-append (in_register w (take w bs)) (spread w k (drop w bs)) in
    let rest = length-spread w k (drop w bs) h (omega (arith, length-drop w bs)) in
    omega (arith, first, length-register w (take w bs), length-take-le w bs (omega arith), rest)

pub length-gather : (w k : ℕ) (bs : List ℕ) → w ≤ 8 → 8 * k ≤ length bs → length (gather w k bs) ≡ w * k
unfolding gather
length-gather w zero bs h l = sym (mul-zero w)
length-gather w (suc k) bs h l =
    let m = mul-suc w k in
    let rest = length-gather w k (drop 8 bs) h (omega (arith, length-drop 8 bs)) in
    omega (arith, length-append (part (8 - w) w bs) (gather w k (drop 8 bs)), length_part (8 - w) w bs (omega arith), rest)

-- ---- one word more

pub spread-more : (w k : ℕ) (bs : List ℕ) → spread w (suc k) bs ≡ spread w k bs ++ in_register w (part (w * k) w bs)
unfolding spread
spread-more w zero bs = append-nil (in_register w (take w bs)) ∙ ap (λ (n : ℕ). in_register w (part n w bs)) (sym (mul-zero w))
spread-more w (suc k) bs =
    let x : List ℕ = in_register w (take w bs) in
    let e : w + w * k ≡ w * suc k = omega (arith, mul-suc w k) in
    let at : drop (w * k) (drop w bs) ≡ drop (w * suc k) bs = drop-drop (w * k) w bs ∙ ap (λ (n : ℕ). drop n bs) e in
    ap (λ (l : List ℕ). x ++ l) (spread-more w k (drop w bs) ∙ ap (λ (l : List ℕ). spread w k (drop w bs) ++ in_register w (take w l)) at)
    ∙ sym (append_assoc x (spread w k (drop w bs)) (in_register w (part (w * suc k) w bs)))

-- only the words that are spread matter
pub spread-take : (w k : ℕ) (a b : List ℕ) → w * k ≤ length a → spread w k (a ++ b) ≡ spread w k a
unfolding spread
spread-take w zero a b l = refl
spread-take w (suc k) a b l =
    let m = mul-suc w k in
    ap₂ (λ (x y : List ℕ). in_register w x ++ y) (take-append-le w a b (omega arith))
    (ap (spread w k) (drop-append-le w a b (omega arith)) ∙ spread-take w k (drop w a) b (omega (arith, length-drop w a)))

-- ---- a word's own bytes

-- m bytes of word j, from its byte `off` on
pub gather-part : (w k j off m : ℕ) (bs : List ℕ) → w ≤ 8 → j < k → off + m ≤ w → 8 * k ≤ length bs
    → part (w * j + off) m (gather w k bs) ≡ part (8 * j + (8 - w) + off) m bs
unfolding gather
gather-part w zero j off m bs h l i r = absurd (omega arith)
gather-part w (suc k) zero off m bs h l i r =
    let x : List ℕ = part (8 - w) w bs in
    let lx : length x ≡ w = length_part (8 - w) w bs (omega arith) in
    let z : w * 0 + off ≡ off = omega (arith, mul-zero w) in
    let y : 8 - w + off ≡ 8 * 0 + (8 - w) + off = omega arith in
    ap (λ (n : ℕ). part n m (x ++ gather w k (drop 8 bs))) z
    ∙ ap (take m) (drop-append-le off x (gather w k (drop 8 bs)) (omega arith))
    ∙ take-append-le m (drop off x) (gather w k (drop 8 bs)) (omega (arith, length-drop off x))
    ∙ part-part (8 - w) w off m bs i
    ∙ ap (λ (n : ℕ). part n m bs) y
gather-part w (suc k) (suc j) off m bs h l i r =
    let x : List ℕ = part (8 - w) w bs in
    let lx : length x ≡ w = length_part (8 - w) w bs (omega arith) in
    let z : w * suc j + off ≡ length x + (w * j + off) = omega (arith, mul-suc w j) in
    let y : 8 + (8 * j + (8 - w) + off) ≡ 8 * suc j + (8 - w) + off = omega arith in
    ap (λ (n : ℕ). part n m (x ++ gather w k (drop 8 bs))) z
    ∙ ap (take m) (drop-append-add x (gather w k (drop 8 bs)) (w * j + off))
    ∙ gather-part w k j off m (drop 8 bs) h (omega arith) i (omega (arith, length-drop 8 bs))
    ∙ ap (take m) (drop-drop (8 * j + (8 - w) + off) 8 bs ∙ ap (λ (n : ℕ). drop n bs) y)

-- ---- the words back

pub gather-spread : (w k : ℕ) (bs : List ℕ) → w ≤ 8 → w * k ≤ length bs → gather w k (spread w k bs) ≡ take (w * k) bs
unfolding spread gather
gather-spread w zero bs h l = ap (λ (n : ℕ). take n bs) (sym (mul-zero w))
gather-spread w (suc k) bs h l =
    let m = mul-suc w k in
    let e : w + w * k ≡ w * suc k = omega (arith, m) in
    let x : List ℕ = take w bs in
    let lx : length x ≡ w = length-take-le w bs (omega arith) in
    let y : List ℕ = spread w k (drop w bs) in
    let z : List ℕ = replicate (8 - w) 0 in
    let lz : length z ≡ 8 - w = length-replicate {A = ℕ} (8 - w) 0 in
    let first : part (8 - w) w (in_register w x ++ y) ≡ x =
    ap (part (8 - w) w) (append_assoc z x y) ∙ ap (take w) (drop_at z (x ++ y) (8 - w) lz) ∙ take_at x y w lx in
    let rest : drop 8 (in_register w x ++ y) ≡ y = drop_at (in_register w x) y 8 (omega (arith, length-register w x)) in
    ap₂ (λ (a b : List ℕ). a ++ b) first (ap (gather w k) rest ∙ gather-spread w k (drop w bs) h (omega (arith, length-drop w bs)))
    ∙ sym (take-add w (w * k) bs) ∙ ap (λ (n : ℕ). take n bs) e

-- ---- doublewords

pub spread-doublewords : (k : ℕ) (bs : List ℕ) → spread 8 k bs ≡ take (8 * k) bs
unfolding spread
spread-doublewords zero bs = refl
spread-doublewords (suc k) bs =
    let e : 8 + 8 * k ≡ 8 * suc k = omega arith in
    ap (λ (l : List ℕ). take 8 bs ++ l) (spread-doublewords k (drop 8 bs)) ∙ sym (take-add 8 (8 * k) bs) ∙ ap (λ (n : ℕ). take n bs) e

pub gather-doublewords : (k : ℕ) (bs : List ℕ) → gather 8 k bs ≡ take (8 * k) bs
unfolding gather
gather-doublewords zero bs = refl
gather-doublewords (suc k) bs =
    let e : 8 + 8 * k ≡ 8 * suc k = omega arith in
    ap (λ (l : List ℕ). take 8 bs ++ l) (gather-doublewords k (drop 8 bs)) ∙ sym (take-add 8 (8 * k) bs) ∙ ap (λ (n : ℕ). take n bs) e

-- ---- a number in one register

-- its lowest w bytes
pub register-number : (w x : ℕ) → w ≤ 8 → bytes_of 8 (zero_extended w x) ≡ in_register w (bytes_of w x)
register-number w x h = doubleword-zero_extended w x h

pub spread-one : (w : ℕ) (bs : List ℕ) → length bs ≡ w → spread w 1 bs ≡ in_register w bs
unfolding spread
spread-one w bs e = append-nil (in_register w (take w bs)) ∙ ap (in_register w) (take_all w bs (omega arith))

-- ---- the plain copies

-- bytes and zeros after them
pub spread-plain : (k : ℕ) (v : List ℕ) → length v ≤ 8 * k
    → spread 8 k (v ++ replicate (8 * k - length v) 0) ≡ v ++ replicate (8 * k - length v) 0
spread-plain k v h =
    let z : List ℕ = replicate (8 * k - length v) 0 in
    spread-doublewords k (v ++ z) ∙ take_all (8 * k) (v ++ z) (omega (arith, length-append v z, length-replicate {A = ℕ} (8 * k - length v) 0))

-- bytes of registers of an image
pub gather-plain : (first k lo n : ℕ) (image : List ℕ) → lo + n ≤ 8 * k
    → part lo n (gather 8 k (part (8 * first) (8 * k) image)) ≡ part (8 * first + lo) n image
gather-plain first k lo n image h =
    let bs : List ℕ = part (8 * first) (8 * k) image in
    ap (part lo n) (gather-doublewords k bs ∙ take_all (8 * k) bs (omega (arith, length-take (8 * k) (drop (8 * first) image))))
    ∙ part-part (8 * first) (8 * k) lo n image h
