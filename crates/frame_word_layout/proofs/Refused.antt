-- What the reading turns into refusals: words that are no machine's, and those of a refused start, give 23 before any other test; a request with a flag that is neither
-- 0 nor 1 gives 17. Assumes nothing.
use Prim.Native.Nat.{ℕ, ◌+◌, ◌<◌}
use mathlib.Core.Path.{◌≡◌, refl}
use mathlib.Core.Bool.{true, false, ◌&&◌}
use mathlib.Core.List.{List, ◌++◌}
use lib.ListN.{get_or}
use lib.Dec.{leb}
use borrow.Author.Tests.{lt-leb}
use Rattle.base_words.proofs.Tests.{and_no}
use Rattle.base_conventions.specs.declared.Convention.{Convention}
use Rattle.base_conventions.specs.declared.Convention.TheVariants.{Ppc64, Z, Aix, Ppc64b}
use Rattle.frame_rules.specs.declared.FrameRules.{FrameRules}
use Rattle.frame_rules.specs.Rules.{rules}
use Rattle.frame_rules.specs.Frames.{no_frame, ok_registers, ok_request}
use Rattle.frame_machine.specs.declared.FrameRefusal.TheVariants.{BadState}
use Rattle.std.specs.Prelude.{Err}
use Rattle.frame_machine.specs.Answers.{Requirement, judge}
use Rattle.frame_machine.specs.Machine.{ok_frames, ok_memory, ok_state, state_tests}
use Rattle.frame_word_layout.specs.Words.{registers_at, is_machine, depth_in, registers_in, frame_in, state_in}
use Rattle.frame_word_layout.specs.Calls.{refused_words}

no-state : (k : FrameRules) (ws : List ℕ) → is_machine ws ≡ false → ok_state k (state_in ws) ≡ false
unfolding ok_state state_in depth_in
no-state k ws h = rw h (and_no (ok_registers k (registers_in ws registers_at)))

-- every answer but a start's is of this form
pub no-machine : (k : FrameRules) (ws : List ℕ) (n : ℕ) (ts : List Requirement) → is_machine ws ≡ false → judge (state_tests k (state_in ws) n ++ ts) ≡ Err BadState
unfolding judge
no-machine k ws n ts h = rw (no-state k ws h)

-- whatever the words rs handed in
pub no_start : (c : Convention) (rs : List ℕ) (k : FrameRules) (n : ℕ) (ts : List Requirement) → judge (state_tests k (state_in (refused_words c rs)) n ++ ts) ≡ Err BadState
unfolding judge ok_state ok_memory state_in refused_words
no_start c rs k n ts =
    let s = state_in (refused_words c rs) in
    rw (and_no (ok_frames k s.frames s.depth), and_no (leb s.depth 32), and_no (ok_registers k s.registers))

-- the record that is read where a flag is none asks for r0, which no convention saves
no-frame : (c : Convention) → ok_request (rules c) no_frame ≡ false
unfolding ok_request
no-frame Ppc64 = refl
no-frame Z = refl
no-frame Aix = refl
no-frame Ppc64b = refl

pub no_flag : (c : Convention) (ws : List ℕ) (at : ℕ) → 1 < get_or ws (at + 2) 0 → ok_request (rules c) (frame_in ws at) ≡ false
unfolding frame_in
no_flag c ws at h = rw (lt-leb (get_or ws (at + 2) 0) 1 h) (no-frame c)

pub no-mark : (c : Convention) (ws : List ℕ) (at : ℕ) → 1 < get_or ws (at + 5) 0 → ok_request (rules c) (frame_in ws at) ≡ false
unfolding frame_in
no-mark c ws at h = rw (lt-leb (get_or ws (at + 5) 0) 1 h, and_no (leb (get_or ws (at + 2) 0) 1)) (no-frame c)
