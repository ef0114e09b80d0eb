-- What a leave takes back from memory is what the enter saved there. Assumes nothing.
use Prim.Native.Nat.{ℕ, ◌+◌, ◌-◌, ◌*◌, ◌^◌, ◌≤◌, ◌<◌}
use mathlib.Core.Path.{◌≡◌, refl, ap, ◌∙◌}
use mathlib.Core.Bool.{Bool, true, false, not}
use mathlib.Core.List.{List}
use native.Mathlib.Omega.{arith}
use lib.ListN.{get_or}
use Rattle.frame_saves.specs.Saves.{load}
use Rattle.frame_saves.proofs.Saving.{Held}
use Rattle.base_words.specs.Basics.{pick, flag, All}
use Rattle.base_words.proofs.Basics.{words-split}
use Rattle.base_words.proofs.Tests.{either}
use Rattle.frame_rules.specs.Rules.{Linkage, LinkRegister, SaveArea, FrameRules, Frame, Registers}
use Rattle.frame_rules.specs.Frames.{first_gpr_of, saves_cr_of, gpr_at, gpr_save, fpr_save, saves_by, link_at, preserved_fields, merge_fields, restored_lr, restored_cr, return_address, preserved_condition}
use Rattle.frame_rules.specs.Helpers.{LinkageLaw}

pub merge-preserved : (a b : ℕ) → preserved_fields (merge_fields a b) ≡ preserved_fields b
unfolding merge_fields
merge-preserved a b = omega arith

pub merge-fit : (a b : ℕ) → a < 2 ^ 32 → merge_fields a b < 2 ^ 32
unfolding merge_fields
merge-fit a b h = omega arith

-- a save of one word
one-held : (l : List ℕ) (at w x : ℕ) → load l (at + w * 0) w ≡ x → load l at w ≡ x
one-held l at w x h = let e : at + w * 0 ≡ at = omega arith in rw e at h

module _ (k : FrameRules) (f : Frame) (s : ℕ) (t : Registers) (l : List ℕ) where
  pub gpr-held : (p : Linkage) → All (Held l) (saves_by p k f s t) → Held l (gpr_save p k f s t.gpr)
  unfolding saves_by All
  gpr-held (LinkRegister c r) h = h.0
  gpr-held (SaveArea n) h = h.1.0

  pub fpr-held : (p : Linkage) → All (Held l) (saves_by p k f s t) → Held l (fpr_save k f s t.fpr)
  unfolding saves_by All
  fpr-held (LinkRegister c r) h = h.1.0
  fpr-held (SaveArea n) h = h.0

  -- the caller's pointer x stands where leave looks for it: in the back chain at o, or in its register's slot
  pub link-held : (p : Linkage) → LinkageLaw p k → (o x : ℕ) → first_gpr_of f ≤ k.gpr.request.last → All (Held l) (saves_by p k f s t)
      → load l o k.word ≡ x → get_or t.gpr k.pointer 0 ≡ x → load l (link_at p k o s) k.word ≡ x
  unfolding link_at saves_by gpr_at All
  link-held (LinkRegister c r) law o x g h e q = e
  link-held (SaveArea n) law o x g h e q =
      let a : s + k.word * k.pointer ≡ s + k.word * first_gpr_of f + k.word * (k.pointer - first_gpr_of f) = omega (arith, words-split k.word (first_gpr_of f) k.pointer (omega arith)) in
      let b : first_gpr_of f + (k.pointer - first_gpr_of f) ≡ k.pointer = omega arith in
      rw a (h.1.0 (k.pointer - first_gpr_of f) (omega arith) ∙ rw b q)

  -- LR is the caller's: restored, or kept by a leaf
  lr-held : (c r x : ℕ) → All (Held l) (saves_by (LinkRegister c r) k f s t) → (f.leaf ≡ true → x ≡ t.lr) → restored_lr (LinkRegister c r) k f s l x ≡ t.lr
  unfolding saves_by restored_lr All
  lr-held c r x h u =
      either f.leaf (λ e. rw e (u e))
      (λ e. let n : 0 < flag (not f.leaf) = rw e (omega arith) in rw e (one-held l (s + r) k.word t.lr (h.1.1.1.0 0 n)))

  pub lr-fit : (p : Linkage) (x m : ℕ) → All (Held l) (saves_by p k f s t) → (f.leaf ≡ true → x ≡ t.lr) → x < m → t.lr < m → restored_lr p k f s l x < m
  unfolding restored_lr
  lr-fit (LinkRegister c r) x m h u p q = omega (arith, lr-held c r x h u)
  lr-fit (SaveArea n) x m h u p q = p

  pub cr-fit : (p : Linkage) (x : ℕ) → x < 2 ^ 32 → restored_cr p f s l x < 2 ^ 32
  unfolding restored_cr
  cr-fit (LinkRegister c r) x h = go (saves_cr_of f)
    where
      go : (b : Bool) → pick b (merge_fields x (load l (s + c) 4)) x < 2 ^ 32
      go true = merge-fit x (load l (s + c) 4) h
      go false = h
  cr-fit (SaveArea n) x h = h

  pub cr-held : (p : Linkage) (x : ℕ) → All (Held l) (saves_by p k f s t) → (saves_cr_of f ≡ false → preserved_condition p x ≡ preserved_condition p t.cr)
      → preserved_condition p (restored_cr p f s l x) ≡ preserved_condition p t.cr
  unfolding saves_by restored_cr All
  cr-held (LinkRegister c r) x h u = go (saves_cr_of f) refl
    where
      go : (b : Bool) → saves_cr_of f ≡ b → preserved_fields (pick b (merge_fields x (load l (s + c) 4)) x) ≡ preserved_fields t.cr
      go true e =
          let n : 0 < flag (saves_cr_of f) = rw e (omega arith) in
          merge-preserved x (load l (s + c) 4) ∙ ap preserved_fields (one-held l (s + c) 4 t.cr (h.1.1.0 0 n))
      go false e = u e
  cr-held (SaveArea n) x h u = refl

  -- the return address: LR is restored, or its register is
  pub return_held : (p : Linkage) → LinkageLaw p k → (u : Registers) (x : ℕ) → first_gpr_of f ≤ k.gpr.request.last → All (Held l) (saves_by p k f s t) → (f.leaf ≡ true → x ≡ t.lr) → u.lr ≡ restored_lr p k f s l x
      → ((n : ℕ) → (n ≡ k.pointer → ⊥) → first_gpr_of f ≤ n → n < k.end → get_or u.gpr n 0 ≡ get_or t.gpr n 0)
      → return_address p u ≡ return_address p t
  return_held (LinkRegister c r) law u x g h v e q = e ∙ lr-held c r x h v
  return_held (SaveArea n) law u x g h v e q = q n (λ z. omega arith) (omega arith) (omega arith)
