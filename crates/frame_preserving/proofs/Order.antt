-- What is saved, in the order of the code. Assumes nothing.
use Prim.Native.Nat.{ℕ, ◌+◌}
use mathlib.Core.Path.{◌≡◌}
use mathlib.Core.Bool.{not}
use mathlib.Core.List.{List, [], ◌∷◌}
use Rattle.base_words.specs.Basics.{flag}
use Rattle.frame_saves.specs.Saves.{save_run, saved, save_all}
use Rattle.frame_rules.specs.declared.Linkage.{Linkage}
use Rattle.frame_rules.specs.declared.Linkage.TheVariants.{LinkRegister, SaveArea}
use Rattle.frame_rules.specs.declared.FrameRules.{FrameRules}
use Rattle.frame_rules.specs.declared.Frame.{Frame}
use Rattle.frame_rules.specs.declared.Registers.{Registers}
use Rattle.frame_rules.specs.Frames.{saves_cr_of, gpr_save, fpr_save, saves_by}

pub saves-link : (p : Linkage) (c l : ℕ) (k : FrameRules) (f : Frame) (s : ℕ) (r : Registers) (m : List ℕ) → p ≡ LinkRegister c l
    → save_all m (saves_by p k f s r)
    ≡ save_run (save_run (saved (saved m (gpr_save p k f s r.gpr)) (fpr_save k f s r.fpr)) (r.cr ∷ []) (s + c) 4 0 (flag (saves_cr_of f))) (r.lr ∷ []) (s + l) k.word 0 (flag (not f.leaf))
unfolding saves_by
saves-link p c l k f s r m e = rw e

pub saves-area : (p : Linkage) (n : ℕ) (k : FrameRules) (f : Frame) (s : ℕ) (r : Registers) (m : List ℕ) → p ≡ SaveArea n
    → save_all m (saves_by p k f s r) ≡ saved (saved m (fpr_save k f s r.fpr)) (gpr_save p k f s r.gpr)
unfolding saves_by
saves-area p n k f s r m e = rw e
