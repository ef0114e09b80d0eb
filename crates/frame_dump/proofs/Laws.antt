-- The laws of a walk: one turn of it, what it counts, and where the frames that it found lie. Assumes nothing.
use Rattle.std.proofs.Common.{Result, Ok, Err}
use Prim.Native.Nat.{ℕ, zero, suc, ◌+◌, ◌-◌, ◌*◌, ◌%◌, ◌^◌, ◌≤◌, ◌<◌}
use mathlib.Core.Path.{◌≡◌, refl, sym, ap, ◌∙◌, subst}
use mathlib.Core.Bool.{Bool, true, false, ◌&&◌, false≢true}
use mathlib.Core.List.{List, [], ◌∷◌}
use native.Mathlib.Omega.{arith}
use lib.ListN.{length, get_or, drop, set}
use lib.Seq.{drop-cons}
use native.Mathlib.Numerals.{add-one}
use Rattle.base_words.specs.Splice.{splice}
use Rattle.base_words.proofs.Splices.{splice-next}
use lib.Dec.{leb, eqb}
use borrow.Author.Tests.{leb-true, lt-leb, le-leb, ne_eqb}
use Rattle.base_words.specs.Basics.{pick}
use Rattle.base_words.proofs.Tests.{and_yes}
use Rattle.frame_saves.specs.Saves.{load}
use Rattle.frame_rules.specs.declared.FrameRules.{FrameRules}
use Rattle.frame_rules.specs.Helpers.{LawfulFrames}
use Rattle.frame_dump.specs.Walk.{WalkRefusal, BadAddress, ChainTooLong, ListTooShort, Walked, frames, refused, ok_address, prepend, walk_from, max_frames, walk, fitted, walk_into, found_in, counted}

-- a word has a byte at least
pub word_some : (k : FrameRules) → LawfulFrames k → 0 < k.word
word_some k law = go k.word law.limit
  where
    go : (w : ℕ) → k.limit + 1 ≡ 2 ^ (8 * w) → 0 < w
    go zero e = absurd (omega (arith, e, law.memory))
    go (suc w) e = omega arith

pub address-yes : (k : FrameRules) (b n least a : ℕ) → ok_address k b n least a ≡ true → (b ≤ a) × (a + k.header ≤ b + n)
unfolding ok_address
address-yes k b n least a e =
    let p = and_yes (eqb (a % k.alignment) 0) _ e in
    let q = and_yes (leb b a) _ p.1 in
    let r = and_yes (leb (a + k.header) (b + n)) _ q.1 in
    (leb-true b a q.0, leb-true (a + k.header) (b + n) r.0)

-- ---- one turn

module _ (k : FrameRules) (b : ℕ) (l : List ℕ) (least a : ℕ) where
  pub walk-bad : (n : ℕ) → 0 < n → ok_address k b (length l) least a ≡ false → walk_from n k b l least a ≡ refused (BadAddress a)
  unfolding walk_from
  walk-bad zero h e = absurd (omega arith)
  walk-bad (suc n) h e = rw e

  pub walk-last : (n : ℕ) → 0 < n → ok_address k b (length l) least a ≡ true → load l (a - b) k.word ≡ 0 → walk_from n k b l least a ≡ frames (a ∷ [])
  unfolding walk_from
  walk-last zero h e z = absurd (omega arith)
  walk-last (suc n) h e z = rw (e, z)

  pub walk_more : (n : ℕ) → 0 < n → ok_address k b (length l) least a ≡ true → (load l (a - b) k.word ≡ 0 → ⊥)
      → walk_from n k b l least a ≡ prepend a (walk_from (n - 1) k b l (a + 1) (load l (a - b) k.word))
  unfolding walk_from
  walk_more zero h e z = absurd (omega arith)
  walk_more (suc n) h e z = let d : suc n - 1 ≡ n = omega arith in rw (d, e, ne_eqb (load l (a - b) k.word) 0 z)

pub walk-out : (k : FrameRules) (b : ℕ) (l : List ℕ) (n least a : ℕ) → n ≤ 0 → walk_from n k b l least a ≡ refused ChainTooLong
unfolding walk_from
walk-out k b l zero least a h = refl
walk-out k b l (suc n) least a h = absurd (omega arith)

pub counted-prepend : (c a : ℕ) (w : Walked) → counted c (prepend a w) ≡ counted (c + 1) w
counted-prepend c a (frames xs) = let e : c + suc (length xs) ≡ c + 1 + length xs = omega arith in ap Ok e
counted-prepend c a (refused r) = refl

-- ---- the frames that were found

-- each is where the one before points, with its header in the dump
abbrev pub Follow : FrameRules → ℕ → List ℕ → ℕ → List ℕ → Type 0
Follow k b l a [] = Unit {0}
Follow k b l a (x ∷ xs) = (x ≡ a) × (b ≤ a) × (a + k.header ≤ b + length l) × Follow k b l (load l (a - b) k.word) xs

follow-prepend : (k : FrameRules) (b : ℕ) (l : List ℕ) (a : ℕ) (w : Walked) → b ≤ a → a + k.header ≤ b + length l → Follow k b l (load l (a - b) k.word) (found_in w) → Follow k b l a (found_in (prepend a w))
follow-prepend k b l a (frames xs) p q f = (refl, p, q, f)
follow-prepend k b l a (refused r) p q f = tt

pub follow : (n : ℕ) (k : FrameRules) (b : ℕ) (l : List ℕ) (least a : ℕ) → Follow k b l a (found_in (walk_from n k b l least a))
unfolding walk_from
follow zero k b l least a = tt
follow (suc n) k b l least a = go (ok_address k b (length l) least a) refl (eqb (load l (a - b) k.word) 0) (follow n k b l (a + 1) (load l (a - b) k.word))
  where
    go : (ok : Bool) → ok_address k b (length l) least a ≡ ok → (last : Bool)
        → Follow k b l (load l (a - b) k.word) (found_in (walk_from n k b l (a + 1) (load l (a - b) k.word)))
        → Follow k b l a (found_in (pick ok (pick last (frames (a ∷ [])) (prepend a (walk_from n k b l (a + 1) (load l (a - b) k.word)))) (refused (BadAddress a))))
    go true e true f = let y = address-yes k b (length l) least a e in (refl, y.0, y.1, tt)
    go true e false f = let y = address-yes k b (length l) least a e in follow-prepend k b l a (walk_from n k b l (a + 1) (load l (a - b) k.word)) y.0 y.1 f
    go false e last f = tt

-- what a count says of the walk
abbrev tag : Result ℕ WalkRefusal → ℕ
tag (Ok m) = 0
tag (Err r) = 1

pub counted-length : (w : Walked) (n : ℕ) → counted 0 w ≡ Ok n → length (found_in w) ≡ n
counted-length (frames xs) n e = let z : 0 + length xs ≡ n = cc in omega arith
counted-length (refused r) n e = absurd (let z : ◌≡◌ {A = ℕ} 1 0 = ap tag e in omega arith)

counted-frames : (w : Walked) (n : ℕ) → counted 0 w ≡ Ok n → w ≡ frames (found_in w)
counted-frames (frames xs) n e = refl
counted-frames (refused r) n e = absurd (let z : ◌≡◌ {A = ℕ} 1 0 = ap tag e in omega arith)

counted-refused : (w : Walked) (r : WalkRefusal) → counted 0 w ≡ Err r → w ≡ refused r
counted-refused (frames xs) r e = absurd (let z : ◌≡◌ {A = ℕ} 0 1 = ap tag e in omega arith)
counted-refused (refused x) r e = let a : x ≡ r = cc in rw a

-- ---- the whole walk, into a slice of m numbers

module _ (k : FrameRules) (b : ℕ) (l : List ℕ) (p m : ℕ) where
  pub into-over : 2 ^ 64 - 1 < b + length l → walk_into k b l p m ≡ refused (BadAddress b)
  unfolding walk_into walk
  into-over h = rw (lt-leb (b + length l) (2 ^ 64 - 1) h)

  module _ (h : b + length l ≤ 2 ^ 64 - 1) where
    walked : walk_into k b l p m ≡ fitted m (walk_from max_frames k b l 0 p)
    unfolding walk_into walk
    walked = rw (le-leb (b + length l) (2 ^ 64 - 1) h)

    pub into-refused : (r : WalkRefusal) → counted 0 (walk_from max_frames k b l 0 p) ≡ Err r → walk_into k b l p m ≡ refused r
    into-refused r e = walked ∙ ap (fitted m) (counted-refused (walk_from max_frames k b l 0 p) r e)

    module _ (n : ℕ) (e : counted 0 (walk_from max_frames k b l 0 p) ≡ Ok n) where
      fitted-is : walk_into k b l p m ≡ pick (leb (length (found_in (walk_from max_frames k b l 0 p))) m) (frames (found_in (walk_from max_frames k b l 0 p))) (refused ListTooShort)
      fitted-is = walked ∙ ap (fitted m) (counted-frames (walk_from max_frames k b l 0 p) n e)

      pub into-short : m < n → walk_into k b l p m ≡ refused ListTooShort
      into-short s =
          let size = counted-length (walk_from max_frames k b l 0 p) n e in
          fitted-is ∙ rw (lt-leb (length (found_in (walk_from max_frames k b l 0 p))) m (omega (arith, size)))

      pub into-frames : n ≤ m → walk_into k b l p m ≡ frames (found_in (walk_from max_frames k b l 0 p))
      into-frames s =
          let size = counted-length (walk_from max_frames k b l 0 p) n e in
          fitted-is ∙ rw (le-leb (length (found_in (walk_from max_frames k b l 0 p))) m (omega (arith, size)))

-- one frame of those found, and the rest of them
module _ (k : FrameRules) (b : ℕ) (l : List ℕ) (a : ℕ) (xs : List ℕ) (i : ℕ) (h : i < length xs) (f : Follow k b l a (drop i xs)) where
  at_i : Follow k b l a (get_or xs i 0 ∷ drop (suc i) xs)
  at_i = subst (Follow k b l a) (drop-cons xs i 0 h) f

  pub follow-in : (b ≤ a) × (a + k.header ≤ b + length l)
  follow-in = (at_i.1, at_i.2)

  pub follow-next : Follow k b l (load l (a - b) k.word) (drop (i + 1) xs)
  follow-next = rw add-one at_i.3

  pub follow-put : (list : List ℕ) → splice (set list i a) (i + 1) (drop (i + 1) xs) ≡ splice list i (drop i xs)
  follow-put list = splice-next list i a (drop (i + 1) xs) ∙ rw (drop-cons xs i 0 h, add-one, at_i.0)
