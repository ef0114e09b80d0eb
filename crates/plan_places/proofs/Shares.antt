-- How many words hold some bytes; the ways through `share_of`, and the bounds of what it gives. Assumes nothing.
use mathlib.Core.Path.{◌≡◌, refl}
use mathlib.Core.Bool.{Bool, true, false}
use Prim.Native.Nat.{ℕ, zero, suc, ◌+◌, ◌-◌, ◌≤◌, ◌<◌}
use native.Mathlib.Omega.{arith}
use native.Mathlib.Nat.{add-div_left, div-eq_of_lt}
use borrow.Author.Tests.{le-leb, lt-leb, leb-true}
use lib.Dec.{leb}
use Rattle.base_words.specs.Basics.{pick}
use Rattle.sig_types.specs.declared.FloatFormat.{FloatFormat}
use Rattle.sig_types.specs.declared.ValueType.{ValueType}
use Rattle.plan_places.specs.declared.Edition.{Edition}
use Rattle.plan_places.specs.Values.{share}
use Rattle.plan_places.specs.Power.{words, fprs, share_of}
use Rattle.plan_places.specs.Helpers.{Shared}

-- ---- words that hold n bytes

pub words-some : (w n : ℕ) → 0 < w → 0 < n → 1 ≤ words w n
unfolding words
words-some w n h k =
    let e : n + (w - 1) ≡ w + (n - 1) = omega arith in
    rw (e, add-div_left (n - 1) h) (omega arith)

pub words-two : (w n : ℕ) → 0 < w → w < n → 2 ≤ words w n
unfolding words
words-two w n h k =
    let e : n + (w - 1) ≡ w + (w + (n - w - 1)) = omega arith in
    rw (e, add-div_left (w + (n - w - 1)) h, add-div_left (n - w - 1) h) (omega arith)

pub words-one : (w n : ℕ) → 0 < n → n ≤ w → words w n ≡ 1
unfolding words
words-one w n k l =
    let h : 0 < w = omega arith in
    let e : n + (w - 1) ≡ w + (n - 1) = omega arith in
    let below : n - 1 < w = omega arith in
    rw (e, add-div_left (n - 1) h, div-eq_of_lt below)

-- ---- the ways through

pub share-words : (v : Bool) (m room n k : ℕ) → m ≡ 0 → share k 0 (n - k) ≡ share_of v m room n k
unfolding share_of
share-words v m room n k h = rw h

pub share-memory : (m room n k : ℕ) → 0 < m → room < m → share 0 0 n ≡ share_of false m room n k
unfolding share_of
share-memory zero room n k h l = absurd (omega arith)
share-memory (suc m) room n k h l = simp (lt-leb (suc m) room l)

pub share-float : (m room n k : ℕ) → 0 < m → m ≤ room → share 0 m 0 ≡ share_of false m room n k
unfolding share_of
share-float zero room n k h l = absurd (omega arith)
share-float (suc m) room n k h l = simp (le-leb (suc m) room l)

-- with an ellipsis: words in any case, and FPRs where they are left
pub share-both : (m room n k : ℕ) → m ≤ room → share k m (n - k) ≡ share_of true m room n k
unfolding share_of
share-both zero room n k l = refl
share-both (suc m) room n k l = simp (le-leb (suc m) room l)

pub share-none : (m room n k : ℕ) → room < m → share k 0 (n - k) ≡ share_of true m room n k
unfolding share_of
share-none zero room n k l = refl
share-none (suc m) room n k l = simp (lt-leb (suc m) room l)

-- both in one
pub share-whole : (m room n k : ℕ) → share_of true m room n k ≡ share k (pick (leb m room) m 0) (n - k)
unfolding share_of
share-whole zero room n k = same (leb 0 room)
  where
    same : (b : Bool) → share k 0 (n - k) ≡ share k (pick b 0 0) (n - k)
    same true = refl
    same false = refl
share-whole (suc m) room n k = refl

-- no type asks for more than two FPRs
pub fprs-most : (e : Edition) (t : ValueType) → fprs e t ≤ 2
unfolding fprs
fprs-most e (ValueType.Integer k) = omega arith
fprs-most e (ValueType.Float FloatFormat.Single) = omega arith
fprs-most e (ValueType.Float FloatFormat.Double) = omega arith
fprs-most Edition.Earlier (ValueType.Float FloatFormat.LongDouble) = omega arith
fprs-most Edition.Later (ValueType.Float FloatFormat.LongDouble) = omega arith
fprs-most e (ValueType.Struct s) = omega arith

pub share-shared : (v : Bool) (m room n k : ℕ) → m ≤ 2 → Shared (share_of v m room n k) n k
unfolding share_of
share-shared v zero room n k h = omega arith
share-shared false (suc m) room n k h = go (leb (suc m) room)
  where
    go : (b : Bool) → Shared (pick b (share 0 (suc m) 0) (share 0 0 n)) n k
    go true = omega arith
    go false = omega arith
share-shared true (suc m) room n k h = go (leb (suc m) room)
  where
    go : (b : Bool) → Shared (share k (pick b (suc m) 0) (n - k)) n k
    go true = omega arith
    go false = omega arith

-- an ellipsis takes no other FPRs
pub share-marked : (v : Bool) (m room n k : ℕ) → (share_of v m room n k).floating ≡ (share_of false m room n k).floating
unfolding share_of
share-marked v zero room n k = refl
share-marked false (suc m) room n k = refl
share-marked true (suc m) room n k = go (leb (suc m) room)
  where
    go : (b : Bool) → pick b (suc m) 0 ≡ (pick b (share 0 (suc m) 0) (share 0 0 n)).floating
    go true = refl
    go false = refl

-- it takes no FPR that isn't left, and none that isn't asked for
share-few : (v : Bool) (m room n k : ℕ) → ((share_of v m room n k).floating ≤ room) × ((share_of v m room n k).floating ≤ m)
unfolding share_of
share-few v m room n k = rw (share-marked v m room n k) (plain m)
  where
    plain : (m : ℕ) → ((share_of false m room n k).floating ≤ room) × ((share_of false m room n k).floating ≤ m)
    plain zero = (omega arith, omega arith)
    plain (suc m) = go (leb (suc m) room) refl
      where
        go : (b : Bool) → leb (suc m) room ≡ b → ((pick b (share 0 (suc m) 0) (share 0 0 n)).floating ≤ room) × ((pick b (share 0 (suc m) 0) (share 0 0 n)).floating ≤ suc m)
        go true q = (leb-true (suc m) room q, omega arith)
        go false q = (omega arith, omega arith)

pub share-room : (v : Bool) (m room n k : ℕ) → (share_of v m room n k).floating ≤ room
share-room v m room n k = (share-few v m room n k).0

pub share-asked : (v : Bool) (m room n k : ℕ) → (share_of v m room n k).floating ≤ m
share-asked v m room n k = (share-few v m room n k).1
