-- The laws of `overlay`, `splice` and `part`: their lengths and shape, what is read at the place of a write, what is read elsewhere, and one write after another.
-- Assumes nothing.
use mathlib.Core.Path.{◌≡◌, refl, sym, ap, ◌∙◌}
use mathlib.Core.Logic.{◌⊎◌, inl, inr, ⊎_elim}
use mathlib.Core.List.{List, [], ◌∷◌, ◌++◌, append-nil}
use Prim.Native.Nat.{ℕ, zero, suc, ◌+◌, ◌-◌, ◌≤◌, ◌<◌, min}
use native.Mathlib.Nat.{le_of_suc-le-suc, not-suc-le-zero, add-zero, zero-add, suc-add}
use native.Mathlib.Numerals.{add-one}
use native.Mathlib.Omega.{arith}
use lib.ListN.{length, get_or, take, drop, set, length-take, length-drop, drop_of_length-le}
use lib.Seq.{take_all, take-length, take-take, length-take-le, take-add, take-append-le, drop-append-le, drop-append-add, drop-cons, drop-drop, get_or-take, get_or-drop, ext_get_or}
use borrow.Rule.Slice.PartMut.{put_mid, mid_of}
use Rattle.base_words.specs.Splice.{overlay, splice, part}
use Rattle.base_words.proofs.Basics.{le-or-lt, take_past}

-- the m bytes from p on and the n bytes from q on have no byte in common: where "nothing else" ("Frames") is, seen from a write
abbrev pub Apart : ℕ → ℕ → ℕ → ℕ → Type 0
Apart p m q n = (p + m ≤ q) ⊎ (q + n ≤ p)

-- ---- lengths and shape

pub length-overlay : (l bs : List ℕ) → length (overlay l bs) ≡ length l
unfolding overlay
length-overlay l [] = refl
length-overlay [] (b ∷ bs) = refl
length-overlay (x ∷ l) (b ∷ bs) = ap suc (length-overlay l bs)

pub length-splice : (l : List ℕ) (n : ℕ) (bs : List ℕ) → length (splice l n bs) ≡ length l
unfolding splice
length-splice l zero bs = length-overlay l bs
length-splice [] (suc n) bs = refl
length-splice (x ∷ l) (suc n) bs = ap suc (length-splice l n bs)

pub length_part : (n m : ℕ) (l : List ℕ) → n + m ≤ length l → length (part n m l) ≡ m
length_part n m l h = length-take-le m (drop n l) (omega (arith, length-drop n l))

-- bytes at the head of a list that has the room for them
pub overlay-is : (l bs : List ℕ) → length bs ≤ length l → overlay l bs ≡ bs ++ drop (length bs) l
unfolding overlay
overlay-is l [] h = refl
overlay-is [] (b ∷ bs) h = absurd (not-suc-le-zero h)
overlay-is (x ∷ l) (b ∷ bs) h = ap (λ (t : List ℕ). b ∷ t) (overlay-is l bs (le_of_suc-le-suc h))

-- as many bytes as the list has
pub overlay-whole : (l bs : List ℕ) → length l ≡ length bs → overlay l bs ≡ bs
overlay-whole l bs e =
    let short : length l ≤ length bs = omega arith in
    let none : drop (length bs) l ≡ [] = drop_of_length-le l short in
    overlay-is l bs (omega arith) ∙ ap (λ (t : List ℕ). bs ++ t) none ∙ append-nil bs

-- no bytes
pub overlay-nothing : (l : List ℕ) → l ≡ overlay l []
unfolding overlay
overlay-nothing [] = refl
overlay-nothing (x ∷ l) = refl

-- a splice leaves the list before its offset, and puts the bytes over the head of the rest
pub splice-is : (l : List ℕ) (n : ℕ) (bs : List ℕ) → splice l n bs ≡ take n l ++ overlay (drop n l) bs
unfolding splice
splice-is l zero bs = refl
splice-is [] (suc n) [] = refl
splice-is [] (suc n) (b ∷ bs) = refl
splice-is (x ∷ l) (suc n) bs = ap (λ (t : List ℕ). x ∷ t) (splice-is l n bs)

pub splice-head : (l bs : List ℕ) → splice l 0 bs ≡ overlay l bs
unfolding splice
splice-head l bs = refl

-- what is put over a whole list is all that is left
pub splice-whole : (l bs : List ℕ) → length bs ≡ length l → splice l 0 bs ≡ bs
splice-whole l bs h = splice-head l bs ∙ overlay-whole l bs (sym h)

-- one byte is a store at an index
pub splice-one : (l : List ℕ) (n b : ℕ) → splice l n (b ∷ []) ≡ set l n b
unfolding splice
splice-one [] zero b = refl
splice-one (x ∷ l) zero b = refl
splice-one [] (suc n) b = refl
splice-one (x ∷ l) (suc n) b = ap (λ (t : List ℕ). x ∷ t) (splice-one l n b)

-- what a call that is lent `&mut s[n..]` and writes at its head leaves in s
pub lent-tail : (l : List ℕ) (n : ℕ) (bs : List ℕ) → put_mid n (length l - n) l (overlay (mid_of n (length l - n) l) bs) ≡ splice l n bs
lent-tail l n bs =
    let k : ℕ = length l - n in
    let e : length (drop n l) ≤ k = omega (arith, length-drop n l) in
    let none : drop k (drop n l) ≡ [] = drop_of_length-le (drop n l) e in
    let whole : take k (drop n l) ≡ drop n l = take_all k (drop n l) e in
    rw (none, whole, append-nil, splice-is)

-- ---- parts of a part

pub part_at : (n m : ℕ) (l : List ℕ) (i d : ℕ) → i < m → get_or (part n m l) i d ≡ get_or l (n + i) d
part_at n m l i d h = get_or-take m (drop n l) i d h ∙ get_or-drop n l i d

-- parts are the same where the lists are
pub part-agree : (l l' : List ℕ) (at n : ℕ) → length l ≡ length l' → ((b : ℕ) → at ≤ b → b < at + n → get_or l b 0 ≡ get_or l' b 0) → part at n l ≡ part at n l'
part-agree l l' at n e same =
    let size : length (part at n l) ≤ n = omega (arith, length-take n (drop at l)) in
    ext_get_or 0 (part at n l) (part at n l') (simp (length-take, length-drop, e))
    (λ i h. part_at at n l i 0 (omega arith) ∙ same (at + i) (omega arith) (omega arith) ∙ sym (part_at at n l' i 0 (omega arith)))

pub part-add : (n a b : ℕ) (l : List ℕ) → part n (a + b) l ≡ part n a l ++ part (n + a) b l
part-add n a b l = take-add a b (drop n l) ∙ rw drop-drop

-- a part of what stands from d on
pub part-from : (d n m : ℕ) (l : List ℕ) → part (d + n) m l ≡ part n m (drop d l)
part-from d n m l = ap (take m) (sym (drop-drop n d l))

pub part-whole : (n : ℕ) (l : List ℕ) → length l ≡ n → part 0 n l ≡ l
part-whole n l h = take_all n l (omega arith)

-- its first element, and those after it
pub part-next : (a m : ℕ) (l : List ℕ) → a < length l → part a (suc m) l ≡ get_or l a 0 ∷ part (a + 1) m l
part-next a m l h = rw (add-one, drop-cons l a 0)

-- a part that passes the end is short
pub part-short : (lo n : ℕ) (l : List ℕ) → part lo n l ≡ part lo (min n (length l - lo)) l
part-short lo n l = ⊎_elim short long (le-or-lt n (length l - lo))
  where
    short : n ≤ length l - lo → part lo n l ≡ part lo (min n (length l - lo)) l
    short h = let e : min n (length l - lo) ≡ n = omega arith in rw e

    long : length l - lo < n → part lo n l ≡ part lo (min n (length l - lo)) l
    long h =
        let e : min n (length l - lo) ≡ length l - lo = omega arith in
        let d = length-drop lo l in
        rw e (take_all n (drop lo l) (omega arith) ∙ sym (take_all (length l - lo) (drop lo l) (omega arith)))

-- the first bytes of a part, where only the first k of its list are there
pub part-prefix : (o n k : ℕ) (l : List ℕ) → take (length (part o n (take k l))) (part o n l) ≡ part o n (take k l)
part-prefix zero n k l = prefix k n l
  where
    prefix : (j m : ℕ) (d : List ℕ) → take (length (take m (take j d))) (take m d) ≡ take m (take j d)
    prefix j zero d = refl
    prefix zero (suc m) d = refl
    prefix (suc j) (suc m) [] = refl
    prefix (suc j) (suc m) (x ∷ d) = ap (λ (t : List ℕ). x ∷ t) (prefix j m d)
part-prefix (suc o) zero k l = refl
part-prefix (suc o) (suc n) zero l = refl
part-prefix (suc o) (suc n) (suc k) [] = refl
part-prefix (suc o) (suc n) (suc k) (x ∷ l) = part-prefix o (suc n) k l

-- from the smaller of d and the list's length on: what stands from d on, or nothing
pub part-clipped : (d m : ℕ) (l : List ℕ) → m ≡ min d (length l) → part m (length l - m) l ≡ drop d l
part-clipped d m l e = take_all (length l - m) (drop m l) (omega (arith, length-drop m l)) ∙ ⊎_elim inside past (le-or-lt d (length l))
  where
    inside : d ≤ length l → drop m l ≡ drop d l
    inside h = let same : m ≡ d = omega arith in rw same

    past : length l < d → drop m l ≡ drop d l
    past h =
        let low : length l ≤ m = omega arith in
        let far : length l ≤ d = omega arith in
        drop_of_length-le l low ∙ sym (drop_of_length-le l far)

pub length-clipped : (d m : ℕ) (l : List ℕ) → m ≡ min d (length l) → length l - m ≡ length (drop d l)
length-clipped d m l e = omega (arith, length-drop d l)

-- ---- parts of two lists end to end

pub part-first : (a b : List ℕ) (lo n : ℕ) → lo + n ≤ length a → part lo n (a ++ b) ≡ part lo n a
part-first a b lo n h =
    ap (take n) (drop-append-le lo a b (omega arith)) ∙ take-append-le n (drop lo a) b (omega (arith, length-drop lo a))

pub part-second : (a b : List ℕ) (lo n : ℕ) → length a ≤ lo → part lo n (a ++ b) ≡ part (lo - length a) n b
part-second a b lo n h =
    let e : lo ≡ length a + (lo - length a) = omega arith in
    ap (λ (m : ℕ). part m n (a ++ b)) e ∙ ap (take n) (drop-append-add a b (lo - length a))

pub part-both : (a b : List ℕ) (lo n : ℕ) → lo ≤ length a → length a ≤ lo + n → part lo n (a ++ b) ≡ drop lo a ++ take (n - (length a - lo)) b
part-both a b lo n h k =
    ap (take n) (drop-append-le lo a b h)
    ∙ take_past n (drop lo a) b (omega (arith, length-drop lo a))
    ∙ rw (length-drop lo a)

-- ---- the same place

-- the first bytes of what was put at the head of a list
pub take-overlay : (l bs : List ℕ) (m : ℕ) → m ≤ length bs → length bs ≤ length l → take m (overlay l bs) ≡ take m bs
take-overlay l bs m h k = ap (take m) (overlay-is l bs k) ∙ take-append-le m bs (drop (length bs) l) h

-- the bytes that were put are read back
pub splice-same : (l : List ℕ) (n : ℕ) (bs : List ℕ) → n + length bs ≤ length l → part n (length bs) (splice l n bs) ≡ bs
unfolding splice
splice-same l zero bs h = take-overlay l bs (length bs) (omega arith) (omega arith) ∙ take-length bs
splice-same [] (suc n) bs h = absurd (omega arith)
splice-same (x ∷ l) (suc n) bs h = splice-same l n bs (omega arith)

overlay-there : (l : List ℕ) (m : ℕ) → overlay l (take m l) ≡ l
unfolding overlay
overlay-there l zero = refl
overlay-there [] (suc m) = refl
overlay-there (x ∷ l) (suc m) = ap (λ (t : List ℕ). x ∷ t) (overlay-there l m)

-- what is there already is put for nothing
pub splice-part : (l : List ℕ) (n m : ℕ) → splice l n (part n m l) ≡ l
unfolding splice
splice-part l zero m = overlay-there l m
splice-part [] (suc n) m = refl
splice-part (x ∷ l) (suc n) m = ap (λ (t : List ℕ). x ∷ t) (splice-part l n m)

-- one of them, by its index
pub splice-at-same : (l : List ℕ) (n : ℕ) (bs : List ℕ) (i d : ℕ) → n + length bs ≤ length l → i < length bs → get_or (splice l n bs) (n + i) d ≡ get_or bs i d
splice-at-same l n bs i d h k = sym (part_at n (length bs) (splice l n bs) i d k) ∙ ap (λ (t : List ℕ). get_or t i d) (splice-same l n bs h)

-- ---- another place

past-overlay : (l bs : List ℕ) (p : ℕ) → length bs ≤ p → drop p (overlay l bs) ≡ drop p l
unfolding overlay
past-overlay l [] p h = refl
past-overlay [] (b ∷ bs) p h = refl
past-overlay (x ∷ l) (b ∷ bs) zero h = absurd (not-suc-le-zero h)
past-overlay (x ∷ l) (b ∷ bs) (suc p) h = past-overlay l bs p (le_of_suc-le-suc h)

past-splice : (l : List ℕ) (n : ℕ) (bs : List ℕ) (p : ℕ) → n + length bs ≤ p → drop p (splice l n bs) ≡ drop p l
unfolding splice
past-splice l zero bs p h = past-overlay l bs p (omega arith)
past-splice [] (suc n) bs p h = refl
past-splice (x ∷ l) (suc n) bs zero h = absurd (omega arith)
past-splice (x ∷ l) (suc n) bs (suc p) h = past-splice l n bs p (omega arith)

take-before-splice : (l : List ℕ) (n : ℕ) (bs : List ℕ) (m : ℕ) → m ≤ n → take m (splice l n bs) ≡ take m l
unfolding splice
take-before-splice l n bs zero h = refl
take-before-splice l zero bs (suc m) h = absurd (not-suc-le-zero h)
take-before-splice [] (suc n) bs (suc m) h = refl
take-before-splice (x ∷ l) (suc n) bs (suc m) h = ap (λ (t : List ℕ). x ∷ t) (take-before-splice l n bs m (le_of_suc-le-suc h))

before-splice : (l : List ℕ) (n : ℕ) (bs : List ℕ) (p m : ℕ) → p + m ≤ n → part p m (splice l n bs) ≡ part p m l
unfolding splice
before-splice l n bs zero m h = take-before-splice l n bs m (omega arith)
before-splice l zero bs (suc p) m h = absurd (omega arith)
before-splice [] (suc n) bs (suc p) m h = refl
before-splice (x ∷ l) (suc n) bs (suc p) m h = before-splice l n bs p m (omega arith)

-- a part that is apart from the splice is as it was
pub splice-other : (l : List ℕ) (n : ℕ) (bs : List ℕ) (p m : ℕ) → Apart p m n (length bs) → part p m (splice l n bs) ≡ part p m l
splice-other l n bs p m (inl h) = before-splice l n bs p m h
splice-other l n bs p m (inr h) = ap (take m) (past-splice l n bs p h)

-- one byte of it, by its index
pub splice-at-other : (l : List ℕ) (n : ℕ) (bs : List ℕ) (i d : ℕ) → Apart i 1 n (length bs) → get_or (splice l n bs) i d ≡ get_or l i d
splice-at-other l n bs i d h = sym (alone (splice l n bs)) ∙ ap (λ (t : List ℕ). get_or t 0 d) (splice-other l n bs i 1 h) ∙ alone l
  where
    alone : (t : List ℕ) → get_or (part i 1 t) 0 d ≡ get_or t i d
    alone t = part_at i 1 t 0 d (omega arith) ∙ rw (add-zero i)

-- ---- one write after another

overlay-set : (l bs : List ℕ) (j v : ℕ) → j < length bs → overlay l (set bs j v) ≡ set (overlay l bs) j v
unfolding overlay
overlay-set l [] j v h = absurd (omega arith)
overlay-set [] (b ∷ bs) zero v h = refl
overlay-set [] (b ∷ bs) (suc j) v h = refl
overlay-set (x ∷ l) (b ∷ bs) zero v h = refl
overlay-set (x ∷ l) (b ∷ bs) (suc j) v h = ap (λ (t : List ℕ). b ∷ t) (overlay-set l bs j v (omega arith))

-- one of the bytes stored before or after they are put
pub splice-with : (l : List ℕ) (n : ℕ) (bs : List ℕ) (j v : ℕ) → j < length bs → splice l n (set bs j v) ≡ set (splice l n bs) (n + j) v
unfolding splice
splice-with l zero bs j v h = rw (zero-add j) (overlay-set l bs j v h)
splice-with [] (suc n) bs j v h = refl
splice-with (x ∷ l) (suc n) bs j v h = rw (suc-add n j) (ap (λ (t : List ℕ). x ∷ t) (splice-with l n bs j v h))

pub splice-nothing : (l : List ℕ) (n : ℕ) → splice l n [] ≡ l
unfolding splice
splice-nothing l zero = refl
splice-nothing [] (suc n) = refl
splice-nothing (x ∷ l) (suc n) = ap (λ (t : List ℕ). x ∷ t) (splice-nothing l n)

pub overlay-append : (l a b : List ℕ) → overlay l (a ++ b) ≡ splice (overlay l a) (length a) b
unfolding splice
overlay-append l [] b = refl
overlay-append [] (x ∷ a) b = refl
overlay-append (y ∷ l) (x ∷ a) b = ap (λ (t : List ℕ). x ∷ t) (overlay-append l a b)

-- one byte more at the head of a list
pub overlay-more : (l bs : List ℕ) (b n : ℕ) → length bs ≡ n → overlay l (bs ++ b ∷ []) ≡ set (overlay l bs) n b
overlay-more l bs b n e = overlay-append l bs (b ∷ []) ∙ splice-one (overlay l bs) (length bs) b ∙ rw e

-- two runs of bytes put as one are the first and then, after it, the second
pub splice-append : (l : List ℕ) (n : ℕ) (a b : List ℕ) → splice l n (a ++ b) ≡ splice (splice l n a) (n + length a) b
unfolding splice
splice-append l zero a b = overlay-append l a b ∙ rw (zero-add (length a))
splice-append [] (suc n) a b = rw (suc-add n (length a))
splice-append (x ∷ l) (suc n) a b = rw (suc-add n (length a)) (ap (λ (t : List ℕ). x ∷ t) (splice-append l n a b))

overlay-over : (l a b : List ℕ) → length a ≤ length b → overlay (overlay l a) b ≡ overlay l b
unfolding overlay
overlay-over l [] b h = refl
overlay-over l (x ∷ a) [] h = absurd (not-suc-le-zero h)
overlay-over [] (x ∷ a) (y ∷ b) h = refl
overlay-over (z ∷ l) (x ∷ a) (y ∷ b) h = ap (λ (t : List ℕ). y ∷ t) (overlay-over l a b (le_of_suc-le-suc h))

-- one byte and then, after it, the rest
pub splice-next : (l : List ℕ) (i x : ℕ) (xs : List ℕ) → splice (set l i x) (i + 1) xs ≡ splice l i (x ∷ xs)
splice-next l i x xs = sym (splice-append l i (x ∷ []) xs ∙ ap (λ (t : List ℕ). splice t (i + 1) xs) (splice-one l i x))

-- of two runs at the same place the second wins, where it is as long as the first
pub splice-over : (l : List ℕ) (n : ℕ) (a b : List ℕ) → length a ≤ length b → splice (splice l n a) n b ≡ splice l n b
unfolding splice
splice-over l zero a b h = overlay-over l a b h
splice-over [] (suc n) a b h = refl
splice-over (x ∷ l) (suc n) a b h = ap (λ (t : List ℕ). x ∷ t) (splice-over l n a b h)

pub overlay-commute : (l a : List ℕ) (q : ℕ) (b : List ℕ) → length a ≤ q → splice (overlay l a) q b ≡ overlay (splice l q b) a
unfolding splice
overlay-commute l [] q b h = refl
overlay-commute l (x ∷ a) zero b h = absurd (not-suc-le-zero h)
overlay-commute [] (x ∷ a) (suc q) b h = refl
overlay-commute (y ∷ l) (x ∷ a) (suc q) b h = ap (λ (t : List ℕ). x ∷ t) (overlay-commute l a q b (le_of_suc-le-suc h))

ordered-commute : (l : List ℕ) (p : ℕ) (a : List ℕ) (q : ℕ) (b : List ℕ) → p + length a ≤ q → splice (splice l p a) q b ≡ splice (splice l q b) p a
unfolding splice
ordered-commute l zero a q b h = overlay-commute l a q b (omega arith)
ordered-commute l (suc p) a zero b h = absurd (omega arith)
ordered-commute [] (suc p) a (suc q) b h = refl
ordered-commute (x ∷ l) (suc p) a (suc q) b h = ap (λ (t : List ℕ). x ∷ t) (ordered-commute l p a q b (omega arith))

-- two splices that are apart may change places
pub splice-commute : (l : List ℕ) (p : ℕ) (a : List ℕ) (q : ℕ) (b : List ℕ) → Apart p (length a) q (length b)
    → splice (splice l p a) q b ≡ splice (splice l q b) p a
splice-commute l p a q b (inl h) = ordered-commute l p a q b h
splice-commute l p a q b (inr h) = sym (ordered-commute l q b p a h)

-- ---- parts of parts
take_inner : (lo n k : ℕ) (l : List ℕ) → lo + n ≤ k → take n (drop lo (take k l)) ≡ take n (drop lo l)
take_inner zero n k l h = take-take n k l (omega arith)
take_inner (suc lo) n zero l h = absurd (omega arith)
take_inner (suc lo) n (suc k) [] h = refl
take_inner (suc lo) n (suc k) (x ∷ l) h = take_inner lo n k l (omega arith)

pub part-part : (at k lo n : ℕ) (l : List ℕ) → lo + n ≤ k → part lo n (part at k l) ≡ part (at + lo) n l
part-part at k lo n l h = take_inner lo n k (drop at l) h ∙ rw drop-drop
