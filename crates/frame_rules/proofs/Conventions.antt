-- Each convention's numbers are lawful, and what the tests on sets of registers say. Assumes nothing.
use Prim.Native.Nat.{ℕ, ◌≤◌, ◌<◌}
use mathlib.Core.Path.{◌≡◌, refl, sym, ◌∙◌}
use mathlib.Core.Logic.{inl, inr, ⊎_elim}
use mathlib.Core.Bool.{true, ◌&&◌, ◌||◌, false≢true}
use mathlib.Core.List.{List, [], ◌∷◌}
use native.Mathlib.Omega.{arith}
use lib.Dec.{leb, ltb}
use borrow.Author.Tests.{ltb-true}
use Rattle.base_words.proofs.Tests.{and_yes, or_yes}
use Rattle.base_words.proofs.Basics.{between}
use Rattle.frame_rules.specs.Rules.{Convention, Ppc64, Z, Aix, Ppc64b, RegisterSpan, in_span, within, BankRules, FrameRules, ppc64_frames, rules}
use Rattle.frame_rules.specs.Frames.{writable}
use Rattle.frame_rules.specs.Helpers.{apart, disjoint, before, BankLaw, LawfulFrames}

-- of codes 1 and 4
ppc64-lawful : LawfulFrames ppc64_frames
ppc64-lawful = record {
  word = omega arith;
  chain = omega arith;
  head = omega arith;
  room = omega arith;
  floor = omega arith;
  least = omega arith;
  some = omega arith;
  alignment = omega arith;
  end = omega arith;
  pointer = omega arith;
  limit = omega arith;
  memory = omega arith;
  unkept = refl;
  unfree = refl;
  unsaved = inl (omega arith);
  ends = omega arith;
  gpr = record { most = omega arith; last = omega arith; free = refl; split = refl; inside = refl };
  fpr = record { most = omega arith; last = omega arith; free = refl; split = refl; inside = refl };
  linkage = omega arith;
}

pub lawful : (c : Convention) → LawfulFrames (rules c)
lawful Ppc64 = ppc64-lawful
lawful Z = record {
  word = omega arith;
  chain = omega arith;
  head = omega arith;
  room = omega arith;
  floor = omega arith;
  least = omega arith;
  some = omega arith;
  alignment = omega arith;
  end = omega arith;
  pointer = omega arith;
  limit = omega arith;
  memory = omega arith;
  unkept = refl;
  unfree = refl;
  unsaved = inr (omega arith);
  ends = omega arith;
  gpr = record { most = omega arith; last = omega arith; free = refl; split = refl; inside = refl };
  fpr = record { most = omega arith; last = omega arith; free = refl; split = refl; inside = refl };
  linkage = omega arith;
}
lawful Aix = record {
  word = omega arith;
  chain = omega arith;
  head = omega arith;
  room = omega arith;
  floor = omega arith;
  least = omega arith;
  some = omega arith;
  alignment = omega arith;
  end = omega arith;
  pointer = omega arith;
  limit = omega arith;
  memory = omega arith;
  unkept = refl;
  unfree = refl;
  unsaved = inl (omega arith);
  ends = omega arith;
  gpr = record { most = omega arith; last = omega arith; free = refl; split = refl; inside = refl };
  fpr = record { most = omega arith; last = omega arith; free = refl; split = refl; inside = refl };
  linkage = omega arith;
}
lawful Ppc64b = ppc64-lawful

apart-no : (v : RegisterSpan) (ws : List RegisterSpan) (n : ℕ) → apart v ws ≡ true → in_span v n ≡ true → within ws n ≡ true → ⊥
apart-no v [] n a p q = false≢true q
apart-no v (w ∷ ws) n a p q =
    let t = and_yes (ltb v.last w.first || ltb w.last v.first) (apart v ws) a in
    let x = between v.first n v.last p in
    ⊎_elim
    (λ i. let y = between w.first n w.last i in
    ⊎_elim (λ u. omega (arith, ltb-true v.last w.first u)) (λ u. omega (arith, ltb-true w.last v.first u)) (or_yes (ltb v.last w.first) (ltb w.last v.first) t.0))
    (λ i. apart-no v ws n t.1 p i)
    (or_yes (in_span w n) (within ws n) q)

pub disjoint-no : (vs ws : List RegisterSpan) (n : ℕ) → disjoint vs ws ≡ true → within vs n ≡ true → within ws n ≡ true → ⊥
disjoint-no [] ws n a p q = false≢true p
disjoint-no (v ∷ vs) ws n a p q =
    let t = and_yes (apart v ws) (disjoint vs ws) a in
    ⊎_elim (λ i. apart-no v ws n t.0 i q) (λ i. disjoint-no vs ws n t.1 i q) (or_yes (in_span v n) (within vs n) p)

pub before-lt : (vs : List RegisterSpan) (e n : ℕ) → before vs e ≡ true → within vs n ≡ true → n < e
before-lt [] e n a p = absurd (false≢true p)
before-lt (v ∷ vs) e n a p =
    let t = and_yes (ltb v.last e) (before vs e) a in
    ⊎_elim (λ i. omega (arith, between v.first n v.last i, ltb-true v.last e t.0)) (λ i. before-lt vs e n t.1 i) (or_yes (in_span v n) (within vs n) p)

module _ (b : BankRules) (e : ℕ) (law : BankLaw b e) (from n : ℕ) (p : writable b from n ≡ true) where
  -- a register that may be written is one of the 32
  pub writable-lt : n < 32
  writable-lt =
      ⊎_elim (λ a. before-lt b.volatile 32 n law.free a) (λ a. omega (arith, between from n b.last a, law.last))
      (or_yes (within b.volatile n) (leb from n && leb n b.last) p)

  -- and none that is preserved and that the frame did not save
  pub writable_apart : (i : ℕ) → within b.preserved i ≡ true → i < from → i ≡ n → ⊥
  writable_apart i q r x =
      ⊎_elim (λ a. disjoint-no b.volatile b.preserved n law.split a (rw x at q)) (λ a. omega (arith, between from n b.last a))
      (or_yes (within b.volatile n) (leb from n && leb n b.last) p)

module _ (k : FrameRules) (law : LawfulFrames k) where
  -- the stack pointer is not written, and not among the preserved
  pub pointer-unwritable : (from n : ℕ) → k.gpr.request.first ≤ from → writable k.gpr from n ≡ true → k.pointer ≡ n → ⊥
  pointer-unwritable from n r p e =
      ⊎_elim (λ a. false≢true (sym law.unfree ∙ rw (← e) at a))
      (λ a. let y = between from n k.gpr.last a in ⊎_elim (λ u. omega arith) (λ u. omega arith) law.unsaved)
      (or_yes (within k.gpr.volatile n) (leb from n && leb n k.gpr.last) p)

  pub pointer-unpreserved : (n : ℕ) → within k.gpr.preserved n ≡ true → n ≡ k.pointer → ⊥
  pointer-unpreserved n p e = false≢true (sym law.unkept ∙ rw e at p)
