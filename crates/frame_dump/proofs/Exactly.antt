-- An accepted walk gives the one list that No. 13 describes, and every such list is given. Assumes nothing.
use Prim.Native.Nat.{ℕ, zero, suc, ◌+◌, ◌-◌, ◌%◌, ◌^◌, ◌≤◌, ◌<◌}
use mathlib.Core.Path.{◌≡◌, refl, sym, ap, ◌∙◌, subst}
use mathlib.Core.Bool.{Bool, true, false, ◌&&◌}
use mathlib.Core.List.{List, [], ◌∷◌}
use native.Mathlib.Omega.{arith}
use lib.ListN.{length}
use lib.Dec.{leb, eqb}
use borrow.Author.Tests.{leb-true, le-leb, lt-leb, eq-eqb, eqb-true}
use Rattle.base_words.specs.Basics.{pick}
use Rattle.base_words.proofs.Tests.{and_yes, either}
use Rattle.frame_saves.specs.Saves.{load}
use Rattle.frame_rules.specs.declared.FrameRules.{FrameRules}
use Rattle.frame_dump.specs.Walk.{BadAddress, ListTooShort, Walked, frames, refused, ok_address, prepend, walk_from, max_frames, walk, fitted, walk_into, found_in}
use Rattle.frame_dump.specs.Chain.{first_address, Linked, Inside, Ascending, Chain, WalksExactly}
use Rattle.frame_dump.proofs.Laws.{walk-last, walk_more}

-- ---- one address

address-parts : (k : FrameRules) (b n least a : ℕ) → ok_address k b n least a ≡ true → (a % k.alignment ≡ 0) × (b ≤ a) × (a + k.header ≤ b + n) × (least ≤ a)
unfolding ok_address
address-parts k b n least a e =
    let p = and_yes (eqb (a % k.alignment) 0) _ e in
    let q = and_yes (leb b a) _ p.1 in
    let r = and_yes (leb (a + k.header) (b + n)) _ q.1 in
    (eqb-true (a % k.alignment) 0 p.0, leb-true b a q.0, leb-true (a + k.header) (b + n) r.0, leb-true least a r.1)

address-whole : (k : FrameRules) (b n least a : ℕ) → a % k.alignment ≡ 0 → b ≤ a → a + k.header ≤ b + n → least ≤ a → ok_address k b n least a ≡ true
unfolding ok_address
address-whole k b n least a p q r s = rw (eq-eqb (a % k.alignment) 0 p, le-leb b a q, le-leb (a + k.header) (b + n) r, le-leb least a s)

-- ---- frames and refusals

abbrev tag : Walked → ℕ
tag (frames xs) = 0
tag (refused r) = 1

prepend-frames : (a : ℕ) (w : Walked) (xs : List ℕ) → prepend a w ≡ frames xs → (w ≡ frames (found_in w)) × (xs ≡ a ∷ found_in w)
prepend-frames a (frames ys) xs e = (refl, sym (ap found_in e))
prepend-frames a (refused r) xs e = absurd (let z : ◌≡◌ {A = ℕ} 1 0 = ap tag e in omega arith)

-- ---- the rest of a walk

-- what is found from the address a on, with n frames left to find
record Part (k : FrameRules) (b : ℕ) (l : List ℕ) (n least a : ℕ) (xs : List ℕ) : Type 0 where
  some : 0 < length xs
  first : first_address xs ≡ a
  linked : Linked k b l xs
  inside : Inside k b (length l) xs
  ascending : Ascending least xs
  count : length xs ≤ n

module _ (k : FrameRules) (b : ℕ) (l : List ℕ) where
  found : (n least a : ℕ) (xs : List ℕ) → walk_from n k b l least a ≡ frames xs → Part k b l n least a xs
  unfolding walk_from
  found zero least a xs e = absurd (let z : ◌≡◌ {A = ℕ} 1 0 = ap tag e in omega arith)
  found (suc n) least a xs e = go (ok_address k b (length l) least a) refl (eqb (load l (a - b) k.word) 0) refl
      (λ ys q. found n (a + 1) (load l (a - b) k.word) ys q) e
    where
      go : (ok : Bool) → ok_address k b (length l) least a ≡ ok → (last : Bool) → eqb (load l (a - b) k.word) 0 ≡ last
          → ((ys : List ℕ) → walk_from n k b l (a + 1) (load l (a - b) k.word) ≡ frames ys → Part k b l n (a + 1) (load l (a - b) k.word) ys)
          → pick ok (pick last (frames (a ∷ [])) (prepend a (walk_from n k b l (a + 1) (load l (a - b) k.word)))) (refused (BadAddress a)) ≡ frames xs
          → Part k b l (suc n) least a xs
      go true o true z f e =
          let y = address-parts k b (length l) least a o in
          subst (Part k b l (suc n) least a) (ap found_in e)
          (record {
            some = omega arith;
            first = refl;
            linked = (eqb-true (load l (a - b) k.word) 0 z, tt);
            inside = (y.0, y.1, y.2, tt);
            ascending = (y.3, tt);
            count = omega arith;
          })
      go true o false z f e =
          let y = address-parts k b (length l) least a o in
          let w = walk_from n k b l (a + 1) (load l (a - b) k.word) in
          let p = prepend-frames a w xs e in
          let r = f (found_in w) p.0 in
          subst (Part k b l (suc n) least a) (sym p.1)
          (record {
            some = omega arith;
            first = refl;
            linked = (sym r.first, r.linked);
            inside = (y.0, y.1, y.2, r.inside);
            ascending = (y.3, r.ascending);
            count = omega (arith, r.count);
          })
      go false o last z f e = absurd (let t : ◌≡◌ {A = ℕ} 1 0 = ap tag e in omega arith)

  given : (n least a : ℕ) (xs : List ℕ) → Part k b l n least a xs → walk_from n k b l least a ≡ frames xs
  given n least a [] p = absurd (omega (arith, p.some))
  given n least a (x ∷ []) p =
      let i = p.inside in
      let ok = address-whole k b (length l) least x i.0 i.1 i.2 p.ascending.0 in
      rw (sym p.first) (walk-last k b l least x n (omega (arith, p.count)) ok p.linked.0)
  given n least a (x ∷ y ∷ ys) p =
      let i = p.inside in
      let ok = address-whole k b (length l) least x i.0 i.1 i.2 p.ascending.0 in
      let next : load l (x - b) k.word ≡ y = p.linked.0 in
      let more = walk_more k b l least x n (omega (arith, p.count)) ok (λ e. omega (arith, next, p.ascending.1.0)) in
      let rest = given (n - 1) (x + 1) (load l (x - b) k.word) (y ∷ ys) (record {
        some = omega arith;
        first = sym next;
        linked = p.linked.1;
        inside = i.3;
        ascending = p.ascending.1;
        count = omega (arith, p.count);
      }) in
      rw (sym p.first) (more ∙ ap (prepend x) rest)

-- ---- the whole walk

fitted-frames : (m : ℕ) (w : Walked) (xs : List ℕ) → fitted m w ≡ frames xs → (w ≡ frames xs) × (length xs ≤ m)
fitted-frames m (frames ys) xs e = go (leb (length ys) m) refl e
  where
    go : (fits : Bool) → leb (length ys) m ≡ fits → pick fits (frames ys) (refused ListTooShort) ≡ frames xs → (frames ys ≡ frames xs) × (length xs ≤ m)
    go true t e = (e, subst (λ (zs : List ℕ). length zs ≤ m) (ap found_in e) (leb-true (length ys) m t))
    go false t e = absurd (let z : ◌≡◌ {A = ℕ} 1 0 = ap tag e in omega arith)
fitted-frames m (refused r) xs e = absurd (let z : ◌≡◌ {A = ℕ} 1 0 = ap tag e in omega arith)

walk-frames : (k : FrameRules) (b : ℕ) (l : List ℕ) (p : ℕ) (xs : List ℕ) → walk k b l p ≡ frames xs → (b + length l ≤ 2 ^ 64 - 1) × (walk_from max_frames k b l 0 p ≡ frames xs)
unfolding walk
walk-frames k b l p xs e = go (leb (b + length l) (2 ^ 64 - 1)) refl e
  where
    go : (ends : Bool) → leb (b + length l) (2 ^ 64 - 1) ≡ ends → pick ends (walk_from max_frames k b l 0 p) (refused (BadAddress b)) ≡ frames xs
        → (b + length l ≤ 2 ^ 64 - 1) × (walk_from max_frames k b l 0 p ≡ frames xs)
    go true t e = (leb-true (b + length l) (2 ^ 64 - 1) t, e)
    go false t e = absurd (let z : ◌≡◌ {A = ℕ} 1 0 = ap tag e in omega arith)

pub walks-exactly : WalksExactly
unfolding walk_into walk
walks-exactly k b l p m xs = (
  λ e.
      let f = fitted-frames m (walk k b l p) xs e in
      let w = walk-frames k b l p xs f.0 in
      let r = found k b l max_frames 0 p xs w.1 in
      (record { end = w.0; some = r.some; first = r.first; linked = r.linked; inside = r.inside; ascending = r.ascending; count = r.count }, f.1),
  λ c s.
      let w = given k b l max_frames 0 p xs (record { some = c.some; first = c.first; linked = c.linked; inside = c.inside; ascending = c.ascending; count = c.count }) in
      rw (le-leb (b + length l) (2 ^ 64 - 1) c.end, w, le-leb (length xs) m s),
)
