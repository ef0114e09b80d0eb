-- What a permitted write of a condition field cannot reach. Assumes nothing.
use Rattle.std.specs.Prelude.{Option, Some, None}
use Prim.Native.Nat.{ℕ, zero, suc, ◌^◌, ◌≤◌, ◌<◌}
use mathlib.Core.Path.{◌≡◌, refl, sym, ◌∙◌}
use mathlib.Core.Logic.{◌⊎◌, inl, inr, ⊎_elim}
use mathlib.Core.Bool.{true, false, ◌&&◌, false≢true}
use native.Mathlib.Omega.{arith}
use lib.Dec.{leb}
use borrow.Author.Tests.{leb-true}
use Rattle.base_words.proofs.Tests.{and_yes, or_yes}
use Rattle.base_words.proofs.Basics.{between}
use Rattle.frame_rules.specs.Rules.{Linkage, LinkRegister, SaveArea, FrameRules, Frame, RegisterBank, General, Floating, Link, ConditionField}
use Rattle.frame_rules.specs.Frames.{saves_cr_of, has_condition, writable_field, with_condition_field, preserved_fields, preserved_condition, first_gpr_of, first_fpr_of, writable, writable_register}
use Rattle.frame_rules.specs.Helpers.{LawfulFrames, Named}
use Rattle.frame_rules.proofs.Conventions.{writable-lt}

pub writable-field : (k : FrameRules) (f : Frame) (n v : ℕ) → writable_field k f n v ≡ true
    → (v ≤ 15) × ((n ≤ 1) ⊎ (((5 ≤ n) × (n ≤ 7)) ⊎ ((saves_cr_of f ≡ true) × ((2 ≤ n) × (n ≤ 4)))))
unfolding writable_field
writable-field k f n v e =
    let c = and_yes (has_condition k.linkage) _ e in
    let p = and_yes (leb v 15) _ c.1 in (
      leb-true v 15 p.0,
      ⊎_elim (λ a. inl (leb-true n 1 a))
          (λ a. inr (⊎_elim (λ b. inl (between 5 n 7 b)) (λ b. inr (let q = and_yes (saves_cr_of f) _ b in (q.0, between 2 n 4 q.1))) (or_yes (leb 5 n && leb n 7) _ a)))
          (or_yes (leb n 1) _ p.1),
    )

pub field-number : (k : FrameRules) (f : Frame) (n v : ℕ) → writable_field k f n v ≡ true → (n ≤ 7) × (v ≤ 15)
field-number k f n v p =
    let q = writable-field k f n v p in
    (⊎_elim (λ a. omega arith) (λ a. ⊎_elim (λ b. omega arith) (λ b. omega arith) a) q.1, q.0)

pub field_fit : (n c v : ℕ) → v ≤ 15 → c < 2 ^ 32 → n ≤ 7 → with_condition_field c n v < 2 ^ 32
unfolding with_condition_field
field_fit zero c v h s r = omega arith
field_fit (suc zero) c v h s r = omega arith
field_fit (suc (suc zero)) c v h s r = omega arith
field_fit (suc (suc (suc zero))) c v h s r = omega arith
field_fit (suc (suc (suc (suc zero)))) c v h s r = omega arith
field_fit (suc (suc (suc (suc (suc zero))))) c v h s r = omega arith
field_fit (suc (suc (suc (suc (suc (suc zero)))))) c v h s r = omega arith
field_fit (suc (suc (suc (suc (suc (suc (suc zero))))))) c v h s r = omega arith
field_fit (suc (suc (suc (suc (suc (suc (suc (suc n)))))))) c v h s r = absurd (omega arith)

field-other : (n c v : ℕ) → v ≤ 15 → c < 2 ^ 32 → (n ≤ 1) ⊎ ((5 ≤ n) × (n ≤ 7)) → preserved_fields (with_condition_field c n v) ≡ preserved_fields c
unfolding with_condition_field
field-other zero c v h s r = omega arith
field-other (suc zero) c v h s r = omega arith
field-other (suc (suc zero)) c v h s r = absurd (⊎_elim (λ a. omega arith) (λ a. omega arith) r)
field-other (suc (suc (suc zero))) c v h s r = absurd (⊎_elim (λ a. omega arith) (λ a. omega arith) r)
field-other (suc (suc (suc (suc zero)))) c v h s r = absurd (⊎_elim (λ a. omega arith) (λ a. omega arith) r)
field-other (suc (suc (suc (suc (suc zero))))) c v h s r = omega arith
field-other (suc (suc (suc (suc (suc (suc zero)))))) c v h s r = omega arith
field-other (suc (suc (suc (suc (suc (suc (suc zero))))))) c v h s r = omega arith
field-other (suc (suc (suc (suc (suc (suc (suc (suc n)))))))) c v h s r = absurd (⊎_elim (λ a. omega arith) (λ a. omega arith) r)

preserved-same : (p : Linkage) (a b : ℕ) → preserved_fields a ≡ preserved_fields b → preserved_condition p a ≡ preserved_condition p b
preserved-same (LinkRegister c l) a b e = e
preserved-same (SaveArea n) a b e = refl

-- fields 2 to 4 stay where the frame did not save them
pub field-preserves : (k : FrameRules) (f : Frame) (n v c : ℕ) → writable_field k f n v ≡ true → saves_cr_of f ≡ false → c < 2 ^ 32
    → preserved_condition k.linkage (with_condition_field c n v) ≡ preserved_condition k.linkage c
field-preserves k f n v c p z h =
    let q = writable-field k f n v p in
    preserved-same k.linkage (with_condition_field c n v) c (field-other n c v q.0 h
    (⊎_elim (λ a. inl a) (λ a. ⊎_elim (λ b. inr b) (λ b. absurd (false≢true (sym z ∙ b.0))) a) q.1))

-- a register that may be written is there
pub writable-named : (k : FrameRules) → LawfulFrames k → (f : Frame) (b : Option RegisterBank) (n v : ℕ) → writable_register k f b n v ≡ true → Named b n v
unfolding writable_register
writable-named k law f (Some General) n v e = writable-lt k.gpr k.end law.gpr (first_gpr_of f) n (and_yes (writable k.gpr (first_gpr_of f) n) _ e).0
writable-named k law f (Some Floating) n v e = writable-lt k.fpr k.end law.fpr (first_fpr_of f) n e
writable-named k law f (Some Link) n v e = tt
writable-named k law f (Some ConditionField) n v e = field-number k f n v e
writable-named k law f None n v e = tt
