-- The own formulas of documents 01 and 02, held against the definitions over a convention's numbers. Its worked sizes are in the crate both_vectors.
-- Assumes nothing.
use Prim.Native.Nat.{ℕ, ◌+◌, ◌-◌, ◌*◌, ◌/◌, ◌%◌, max}
use mathlib.Core.Path.{◌≡◌, refl}
use mathlib.Core.Bool.{not}
use mathlib.Core.List.{[], ◌∷◌}
use native.Mathlib.Omega.{arith}
use lib.ListN.{get_or}
use Rattle.base_words.specs.Basics.{round_up, flag}
use Rattle.frame_rules.specs.Rules.{ppc64_frames, z_frames, aix_frames, LinkRegister, FrameRules, Frame, Registers}
use Rattle.frame_rules.specs.Frames.{first_gpr_of, first_fpr_of, saves_cr_of, below, full_size, gpr_at, saves_by, saves, link_at, word_save, return_address, preserved_condition, unit_of, with_condition_field}

module _ (f : Frame) (s : ℕ) where
  -- "48 + max(64, P) + L + 8(32 - g) + 8(32 - m), rounded up to 16"
  size-ppc64 : full_size ppc64_frames f ≡ (48 + max 64 f.outgoing + f.locals + 8 * (32 - first_gpr_of f) + 8 * (32 - first_fpr_of f) + 15) / 16 * 16
  unfolding full_size round_up below
  size-ppc64 = omega arith

  -- "160 + P + L + 8(16 - m), rounded up to 8"
  size-z : full_size z_frames f ≡ (160 + f.outgoing + f.locals + 8 * (16 - first_fpr_of f) + 7) / 8 * 8
  unfolding full_size round_up below
  size-z = omega arith

  -- "24 + max(32, P) + L and its saves, rounded up to 16"
  size-aix : full_size aix_frames f ≡ (24 + max 32 f.outgoing + f.locals + 4 * (32 - first_gpr_of f) + 8 * (32 - first_fpr_of f) + 15) / 16 * 16
  unfolding full_size round_up below
  size-aix = omega arith

  -- "f(n) at S - 8(32 - n), r(n) at S - 8(32 - m) - 8(32 - n), CR in the 4 bytes at S + 8 if saved, LR at S + 16"
  saves-ppc64 : (r : Registers) → saves ppc64_frames f s r
      ≡ record { values = r.gpr; from = first_gpr_of f; count = 32 - first_gpr_of f; at = s - 8 * (32 - first_fpr_of f) - 8 * (32 - first_gpr_of f); width = 8 }
      ∷ record { values = r.fpr; from = first_fpr_of f; count = 32 - first_fpr_of f; at = s - 8 * (32 - first_fpr_of f); width = 8 }
      ∷ word_save r.cr (flag (saves_cr_of f)) (s + 8) 4
      ∷ word_save r.lr (flag (not f.leaf)) (s + 16) 8
      ∷ []
  unfolding saves_by gpr_at
  saves-ppc64 r = refl

  -- "r(g) to r15 .. at S + 8n .. f(m) to f15 .. at S - 8(16 - n)"
  saves-z : (r : Registers) → saves z_frames f s r
      ≡ record { values = r.fpr; from = first_fpr_of f; count = 16 - first_fpr_of f; at = s - 8 * (16 - first_fpr_of f); width = 8 }
      ∷ record { values = r.gpr; from = first_gpr_of f; count = 16 - first_gpr_of f; at = s + 8 * first_gpr_of f; width = 8 }
      ∷ []
  unfolding saves_by gpr_at
  saves-z r = refl

  -- "CR at 4, LR at 8 .. r(n) at S - 8(32 - m) - 4(32 - n)"
  saves-aix : (r : Registers) → saves aix_frames f s r
      ≡ record { values = r.gpr; from = first_gpr_of f; count = 32 - first_gpr_of f; at = s - 8 * (32 - first_fpr_of f) - 4 * (32 - first_gpr_of f); width = 4 }
      ∷ record { values = r.fpr; from = first_fpr_of f; count = 32 - first_fpr_of f; at = s - 8 * (32 - first_fpr_of f); width = 8 }
      ∷ word_save r.cr (flag (saves_cr_of f)) (s + 4) 4
      ∷ word_save r.lr (flag (not f.leaf)) (s + 8) 4
      ∷ []
  unfolding saves_by gpr_at
  saves-aix r = refl

-- "the back chain (on Z the r15 slot instead)", with the frame's pointer at o and the caller's at s; PPC64 and AIX alike have a link register
link-power : (k : FrameRules) (c l o s : ℕ) → link_at (LinkRegister c l) k o s ≡ o
unfolding link_at
link-power k c l o s = refl

link-z : (o s : ℕ) → link_at z_frames.linkage z_frames o s ≡ s + 120
unfolding link_at
link-z o s = refl

-- "The return address is LR, on Z r14."
return-power : (c l : ℕ) (r : Registers) → return_address (LinkRegister c l) r ≡ r.lr
return-power c l r = refl

return-z : (r : Registers) → return_address z_frames.linkage r ≡ get_or r.gpr 14 0
return-z r = refl

-- "Preserved are .. CR fields 2 to 4"; on Z none
abbrev field_of : ℕ → ℕ → ℕ
field_of c n = c / unit_of n % 16

condition-power : (a l c : ℕ) → preserved_condition (LinkRegister a l) c ≡ field_of c 2 * 256 + field_of c 3 * 16 + field_of c 4
condition-power a l c = omega arith

condition-z : (c : ℕ) → preserved_condition z_frames.linkage c ≡ 0
condition-z c = refl

-- condition field 0 is CR's top four bits, field 7 its lowest
pub fields-worked : (with_condition_field 0 0 15 ≡ 4026531840) × (with_condition_field 4294967295 2 0 ≡ 4279238655) × (with_condition_field 4294967295 7 0 ≡ 4294967280)
unfolding with_condition_field
fields-worked = (refl, refl, refl)
