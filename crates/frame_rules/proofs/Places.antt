-- Where the parts of a frame lie: header, outgoing area, locals and saves in this order below the caller's pointer, other saves in the caller's header. Assumes nothing.
use Prim.Native.Nat.{ℕ, suc, ◌+◌, ◌-◌, ◌*◌, ◌%◌, ◌^◌, ◌≤◌, ◌<◌}
use mathlib.Core.Path.{◌≡◌}
use mathlib.Core.Logic.{inl, inr}
use mathlib.Core.Bool.{true, false, not, false≢true}
use native.Mathlib.Omega.{arith}
use native.Mathlib.Nat.{mul-suc, mul-le-mul_left, pow-le-pow_right}
use lib.Dec.{lit<, leb, eqb}
use borrow.Author.Tests.{leb-true}
use Rattle.base_words.specs.Basics.{flag}
use Rattle.base_words.proofs.Basics.{round-up-least, round-up-most, words-split, between}
use Rattle.base_words.proofs.Tests.{either, and_yes, flag-le}
use Rattle.frame_saves.specs.Saves.{Outside}
use Rattle.frame_saves.proofs.Saving.{Ascending}
use Rattle.frame_rules.specs.Rules.{Linkage, LinkRegister, SaveArea, FrameRules, Frame, Registers, in_span}
use Rattle.frame_rules.specs.Frames.{first_gpr_of, first_fpr_of, saves_cr_of, has_condition, max_outgoing, ok_leaf, ok_request, outgoing_length, below, full_size, frame_size, most_size, chain_width, gpr_at, saves_by, saves, link_at}
use Rattle.frame_rules.specs.Helpers.{LinkageLaw, LawfulFrames}

-- what the ranges of a request say
pub record Ranges (k : FrameRules) (f : Frame) : Type 0 where
  pub gpr : (k.gpr.request.first ≤ first_gpr_of f) × (first_gpr_of f ≤ k.gpr.request.last)
  pub fpr : (k.fpr.request.first ≤ first_fpr_of f) × (first_fpr_of f ≤ k.fpr.request.last)
  pub locals : f.locals ≤ 32000
  pub outgoing : f.outgoing ≤ max_outgoing

pub ranges : (k : FrameRules) (f : Frame) → ok_request k f ≡ true → Ranges k f
unfolding ok_request
ranges k f e =
    let p = and_yes (in_span k.gpr.request (first_gpr_of f)) _ e in
    let q = and_yes (in_span k.fpr.request (first_fpr_of f)) _ p.1 in
    let t = and_yes (leb f.locals 32000) _ q.1 in
    let u = and_yes (eqb (f.outgoing % 8) 0) _ t.1 in
    let v = and_yes (leb f.outgoing max_outgoing) _ u.1 in
    record {
      gpr = between k.gpr.request.first (first_gpr_of f) k.gpr.request.last p.0;
      fpr = between k.fpr.request.first (first_fpr_of f) k.fpr.request.last q.0;
      locals = leb-true f.locals 32000 t.0;
      outgoing = leb-true f.outgoing max_outgoing v.0;
    }

-- ---- a leaf, and a frame that is none

pub leaf-size : (k : FrameRules) (f : Frame) → f.leaf ≡ true → frame_size k f ≡ 0
unfolding frame_size
leaf-size k f e = rw e

pub solid-size : (k : FrameRules) (f : Frame) → f.leaf ≡ false → frame_size k f ≡ full_size k f
unfolding frame_size
solid-size k f e = rw e

pub leaf-chain : (k : FrameRules) (f : Frame) → f.leaf ≡ true → chain_width k f ≡ 0
unfolding chain_width
leaf-chain k f e = rw e

pub solid-chain : (k : FrameRules) (f : Frame) → f.leaf ≡ false → chain_width k f ≡ k.word
unfolding chain_width
solid-chain k f e = rw e

-- a leaf is asked for only where there is a link register
pub leaf-linkage : (k : FrameRules) (f : Frame) → ok_request k f ≡ true → f.leaf ≡ true → has_condition k.linkage ≡ true
unfolding ok_request ok_leaf
leaf-linkage k f e l =
    let p = and_yes (in_span k.gpr.request (first_gpr_of f)) _ e in
    let q = and_yes (in_span k.fpr.request (first_fpr_of f)) _ p.1 in
    let t = and_yes (leb f.locals 32000) _ q.1 in
    let u = and_yes (eqb (f.outgoing % 8) 0) _ t.1 in
    let v = and_yes (leb f.outgoing max_outgoing) _ u.1 in
    let w = and_yes (ok_leaf k f) _ v.1 in
    (and_yes (has_condition k.linkage) _ (rw l at w.0)).0

-- ---- arithmetic

-- n words of w bytes
pub words_small : (w n : ℕ) → w ≤ 8 → n ≤ 32 → w * n ≤ 256
words_small w n p q = omega (arith, mul-le-mul_left {m = n} {n = 32} w q)

-- the highest address is one of 64 bits
pub limit-64 : (k : FrameRules) → LawfulFrames k → k.limit < 2 ^ 64
limit-64 k law = omega (arith, law.limit, pow-le-pow_right {n = 2} (lit< tt) {i = 8 * k.word} {j = 64} (omega (arith, law.word)))

-- ---- by the linkage

below-small : (p : Linkage) (k : FrameRules) → k.word ≤ 8 → k.end ≤ 32 → (f : Frame) → below p k f ≤ 512
unfolding below
below-small (LinkRegister c l) k w e f = omega (arith, words_small k.word (k.end - first_gpr_of f) w (omega arith))
below-small (SaveArea r) k w e f = omega arith

-- what a leaf saves below its caller's pointer lies in the floor
below_floor : (p : Linkage) (k : FrameRules) → LinkageLaw p k → (f : Frame) → has_condition p ≡ true → k.gpr.request.first ≤ first_gpr_of f → k.fpr.request.first ≤ first_fpr_of f
    → below p k f ≤ k.floor
unfolding below
below_floor (LinkRegister c l) k law f h g m =
    omega (arith, mul-le-mul_left {m = k.end - first_gpr_of f} {n = k.end - k.gpr.request.first} k.word (omega arith))
below_floor (SaveArea r) k law f h g m = absurd (false≢true h)

fpr-below : (p : Linkage) (k : FrameRules) (f : Frame) → 8 * (k.end - first_fpr_of f) ≤ below p k f
unfolding below
fpr-below (LinkRegister c l) k f = omega arith
fpr-below (SaveArea r) k f = omega arith

ascending-by : (p : Linkage) (k : FrameRules) → LinkageLaw p k → (f : Frame) (s : ℕ) (r : Registers) → first_gpr_of f ≤ k.end → below p k f ≤ s
    → Ascending (s - below p k f) (saves_by p k f s r) (s + k.header)
unfolding below saves_by gpr_at
ascending-by (LinkRegister c l) k law f s r e h =
    let b = flag-le (saves_cr_of f) in
    let d = mul-le-mul_left {m = flag (not f.leaf)} {n = 1} k.word (flag-le (not f.leaf)) in
    omega arith
ascending-by (SaveArea n) k law f s r e h = omega (arith, words-split k.word (first_gpr_of f) k.end e)

chain-outside-by : (p : Linkage) (k : FrameRules) → LinkageLaw p k → (f : Frame) (s : ℕ) (r : Registers) (b : ℕ) → k.gpr.request.first ≤ first_gpr_of f → below p k f ≤ s
    → s ≤ b → b < s + k.word → Outside b (saves_by p k f s r)
unfolding below saves_by gpr_at
chain-outside-by (LinkRegister c l) k law f s r b e h p q = (inr (omega arith), (inr (omega arith), (inl (omega arith), (inl (omega arith), tt))))
chain-outside-by (SaveArea n) k law f s r b e h p q =
    (inr (omega arith), (inl (omega (arith, mul-le-mul_left {m = 1} {n = first_gpr_of f} k.word (omega arith))), tt))

-- the general registers lie in the frame's own saves, or in the caller's header
gpr-in-by : (p : Linkage) (k : FrameRules) → LinkageLaw p k → (f : Frame) (s : ℕ) → first_gpr_of f ≤ k.end → below p k f ≤ s
    → gpr_at p k f s + k.word * (k.end - first_gpr_of f) ≤ s + k.header
unfolding below gpr_at
gpr-in-by (LinkRegister c l) k law f s e h = omega arith
gpr-in-by (SaveArea n) k law f s e h = omega (arith, words-split k.word (first_gpr_of f) k.end e)

-- where leave looks for the caller's pointer, in the frame or in the caller's header
link-in-by : (p : Linkage) (k : FrameRules) → LinkageLaw p k → k.word ≤ k.header → (o s : ℕ) → o ≤ s → link_at p k o s + k.word ≤ s + k.header
unfolding link_at
link-in-by (LinkRegister c l) k law h o s e = omega arith
link-in-by (SaveArea n) k law h o s e = omega (arith, mul-suc k.word k.pointer, mul-le-mul_left {m = suc k.pointer} {n = k.end} k.word (omega arith))

pub link-in : (k : FrameRules) → LawfulFrames k → (o s : ℕ) → o ≤ s → link_at k.linkage k o s + k.word ≤ s + k.header
link-in k law o s e = link-in-by k.linkage k law.linkage law.chain o s e

-- ---- over a lawful convention, for a request in range

module _ (k : FrameRules) (law : LawfulFrames k) (f : Frame) (r : ok_request k f ≡ true) where
  pub gpr-end : first_gpr_of f ≤ k.end
  gpr-end = omega (arith, (ranges k f r).gpr, law.gpr.most)

  pub fpr-end : first_fpr_of f ≤ k.end
  fpr-end = omega (arith, (ranges k f r).fpr, law.fpr.most)

  -- a frame's size is bounded, and at least its parts'
  pub full-small : full_size k f ≤ most_size
  unfolding full_size
  full-small =
      let q = ranges k f r in
      omega (
        arith,
        round-up-most (k.header + outgoing_length k f + f.locals + below k.linkage k f) k.alignment law.some,
        below-small k.linkage k law.word law.end f,
        law.alignment,
        law.head,
        law.room,
        law.least,
      )

  pub full-parts : k.header + outgoing_length k f + f.locals + below k.linkage k f ≤ full_size k f
  unfolding full_size
  full-parts = round-up-least (k.header + outgoing_length k f + f.locals + below k.linkage k f) k.alignment law.some

  pub size_small : frame_size k f ≤ most_size
  size_small = either f.leaf (λ e. omega (arith, leaf-size k f e)) (λ e. omega (arith, solid-size k f e, full-small))

  pub size-parts : f.leaf ≡ false → k.header + outgoing_length k f + f.locals + below k.linkage k f ≤ frame_size k f
  size-parts e = omega (arith, solid-size k f e, full-parts)

  pub below-le-512 : below k.linkage k f ≤ 512
  below-le-512 = below-small k.linkage k law.word law.end f

  -- a frame's saves lie in the frame, a leaf's in the floor
  pub below-reach : below k.linkage k f ≤ frame_size k f + k.floor
  below-reach =
      let q = ranges k f r in
      either f.leaf (λ e. omega (arith, below_floor k.linkage k law.linkage f (leaf-linkage k f r e) q.gpr.0 q.fpr.0)) (λ e. omega (arith, size-parts e))

  -- with the caller's pointer at s
  module _ (s : ℕ) (fits : below k.linkage k f ≤ s) where
    pub fpr-le : 8 * (k.end - first_fpr_of f) ≤ s
    fpr-le = omega (arith, fpr-below k.linkage k f)

    pub gpr-in : gpr_at k.linkage k f s + k.word * (k.end - first_gpr_of f) ≤ s + k.header
    gpr-in = gpr-in-by k.linkage k law.linkage f s gpr-end fits

    pub ascending : (t : Registers) → Ascending (s - below k.linkage k f) (saves k f s t) (s + k.header)
    ascending t = ascending-by k.linkage k law.linkage f s t gpr-end fits

    -- nothing is saved in the caller's back chain
    pub chain-outside : (t : Registers) (b : ℕ) → s ≤ b → b < s + k.word → Outside b (saves k f s t)
    chain-outside t b p q = chain-outside-by k.linkage k law.linkage f s t b (ranges k f r).gpr.0 fits p q

  -- a frame that is no leaf, with its own pointer below s
  module _ (s : ℕ) (fits : frame_size k f ≤ s) where
    pub room_for : f.leaf ≡ false → (s - frame_size k f) + k.header + outgoing_length k f ≤ s - below k.linkage k f
    room_for e = omega (arith, size-parts e)

    -- the back chain lies below the saves
    pub chain-in : chain_width k f ≤ frame_size k f - below k.linkage k f
    chain-in = either f.leaf (λ e. omega (arith, leaf-chain k f e)) (λ e. omega (arith, solid-chain k f e, size-parts e, law.chain))
