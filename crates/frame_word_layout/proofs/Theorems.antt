-- The machine over words is the machine: the words after a call are read as the state that the machine's own definition gives after it; those of a refused start,
-- which have CR's word as it came, where that word has 32 bits. Assumes nothing.
use Prim.Native.Nat.{ℕ, zero, suc, ◌+◌, ◌-◌, ◌*◌, ◌^◌, ◌≤◌, ◌<◌}
use native.Mathlib.Nat.{mod-lt, mod-eq_of_lt}
use native.Mathlib.Omega.{arith}
use mathlib.Core.Path.{◌≡◌, refl, sym, ap, ◌∙◌}
use mathlib.Core.Logic.{inl}
use mathlib.Core.Bool.{Bool, true, false}
use mathlib.Core.List.{List, [], ◌∷◌, ◌++◌}
use lib.ListN.{length, get_or, set, drop, replicate, length-set}
use lib.Seq.{get_or-set_same, get_or-drop, drop-drop, drop_at, set-get_or}
use borrow.Author.Tests.{le-leb}
use Rattle.base_words.specs.Splice.{splice}
use Rattle.base_words.proofs.Splices.{length_part, splice-at-other}
use Rattle.frame_saves.proofs.Taking.{taken-length}
use Rattle.base_conventions.specs.declared.Convention.{Convention}
use Rattle.base_conventions.specs.Numbers.{code_of}
use Rattle.base_conventions.proofs.Laws.{code-back}
use Rattle.frame_rules.specs.declared.Frame.{Frame}
use Rattle.frame_rules.specs.declared.FrameRules.{FrameRules}
use Rattle.frame_rules.specs.declared.Registers.{Registers}
use Rattle.frame_rules.specs.declared.RegisterBank.{RegisterBank}
use Rattle.frame_rules.specs.declared.RegisterBank.TheVariants.{General, Floating, Link, ConditionField}
use Rattle.frame_rules.specs.Helpers.{Named}
use Rattle.frame_rules.specs.Rules.{rules}
use Rattle.frame_rules.proofs.Halves.{lowered-length}
use Rattle.frame_rules.specs.Frames.{no_frame, with_pointer, cleared, frame_size, gpr_save, fpr_save, restored, bank_of, with_register}
use Rattle.frame_rules.proofs.Conventions.{lawful}
use Rattle.frame_rules.proofs.Writing.{field_fit, writable-named}
use Rattle.frame_rules.proofs.Restoring.{cr-fit}
use Rattle.frame_machine.specs.declared.State.{State}
use Rattle.frame_machine.specs.Answers.{FrameAnswer}
use Rattle.std.specs.Prelude.{Ok, Err, Option, Some, None}
use Rattle.frame_machine.specs.declared.FrameRefusal.TheVariants.{BadState}
use Rattle.frame_machine.specs.Answers.{Requirement, judge, settle}
use Rattle.frame_machine.specs.Machine.{state_rules, stack_pointer, offset, top, state_tests, start_answer, started, not_started, start_outcome, enter_answer, entered, write_register_answer, written_register, leave_answer, left, enter_outcome, write_register_outcome, leave_outcome}
use Rattle.frame_machine.proofs.Judging.{never}
use Rattle.frame_machine.proofs.States.{enter-yes, write-register-yes, leave-yes}
use Rattle.frame_word_layout.specs.Words.{machine_words, registers_words, record_words, registers_at, records_at, is_machine, depth_in, registers_in, frame_in, frames_in, state_in, register_words, frame_words, frames_words, state_words, with_registers}
use Rattle.frame_word_layout.specs.Calls.{changed, refused_words, start_words, enter_words, write_register_words, leave_words}
use Rattle.frame_word_layout.proofs.Refused.{no-machine}
use Rattle.frame_word_layout.proofs.Laws.{length-register-words, state-put, refused-back}
use Rattle.frame_word_layout.proofs.ReadBack.{flag-back, cr-word, registers-same, registers-other, registers-back, changed-back}

-- ---- what is read

pub accepted-machine : (k : FrameRules) (ws : List ℕ) (n : ℕ) (ts : List Requirement) → judge (state_tests k (state_in ws) n ++ ts) ≡ Ok tt → is_machine ws ≡ true
accepted-machine k ws n ts e = go (is_machine ws) refl
  where
    go : (b : Bool) → is_machine ws ≡ b → is_machine ws ≡ true
    go true h = h
    go false h = never BadState (sym (no-machine k ws n ts h) ∙ e)

length-frames : (n : ℕ) (ws : List ℕ) (i : ℕ) → length (frames_in n ws i) ≡ n
unfolding frames_in
length-frames zero ws i = refl
length-frames (suc n) ws i = ap suc (length-frames n ws (i + 1))

-- what is known of the registers that are read
pub record Read (r : Registers) : Type 0 where
  pub gpr : length r.gpr ≡ 32
  pub fpr : length r.fpr ≡ 32
  pub cr : r.cr < 2 ^ 32

registers-read : (ws : List ℕ) (at : ℕ) → at + registers_words ≤ length ws → Read (registers_in ws at)
unfolding registers_in
registers-read ws at h = record {
  gpr = length_part at 32 ws (omega arith);
  fpr = length_part (at + 32) 32 ws (omega arith);
  cr = mod-lt (get_or ws (at + 65) 0) (omega arith);
}

state-read : (ws : List ℕ) → length ws ≡ machine_words → Read (state_in ws).registers
unfolding state_in
state-read ws n = registers-read ws 4 (omega arith)

pub frames-32 : (ws : List ℕ) → length (state_in ws).frames ≡ 32
unfolding state_in
frames-32 ws = length-frames 32 ws 0

-- ---- all the words of a state

frames-read : (fs : List Frame) (ws : List ℕ) (i : ℕ) → drop (records_at + record_words * i) ws ≡ frames_words fs → frames_in (length fs) ws i ≡ fs
unfolding frames_in frames_words frame_in frame_words
frames-read [] ws i e = refl
frames-read (f ∷ fs) ws i e =
    let at = records_at + record_words * i in
    let at-0 : at + 0 ≡ at = omega arith in
    let here : (j : ℕ) → get_or ws (at + j) 0 ≡ get_or (frames_words (f ∷ fs)) j 0 = λ j. sym (get_or-drop at ws j 0) ∙ ap (λ (t : List ℕ). get_or t j 0) e in
    let w0 = rw at-0 at (here 0) in
    let head : frame_in ws at ≡ f = rw (w0, here 1, here 2, here 3, here 4, here 5) (flag-back f.saves_cr f.leaf f.first_gpr f.first_fpr f.locals f.outgoing) in
    let next : records_at + record_words * (i + 1) ≡ at + 6 = omega arith in
    let rest : drop (records_at + record_words * (i + 1)) ws ≡ frames_words fs = rw next (sym (drop-drop 6 at ws) ∙ ap (λ (t : List ℕ). drop 6 t) e) in
    rw (head, frames-read fs ws (i + 1) rest)

code-machine : (c : Convention) (ws : List ℕ) → get_or ws 0 0 ≡ code_of c → get_or ws 69 0 < 2 ^ 32 → is_machine ws ≡ true
unfolding is_machine
code-machine c ws e h = rw (e, code-back c, le-leb (get_or ws 69 0) (2 ^ 32 - 1) (omega arith))

module _ (s : State) (y : Read s.registers) (f : length s.frames ≡ 32) where
  words-66 : length (register_words s.registers) ≡ registers_words
  words-66 = length-register-words s.registers y.gpr y.fpr

  blank : List ℕ
  blank = set (set (set (set (replicate machine_words 0) 0 (code_of s.convention)) 1 s.base) 2 s.size) 3 s.depth

  blank-length : length blank ≡ machine_words
  unfolding blank
  blank-length = simp length-set

  spliced : splice (splice blank registers_at (register_words s.registers)) records_at (frames_words s.frames) ≡ state_words s
  unfolding blank
  spliced = state-put (replicate machine_words 0) s refl words-66 f

  registers-there : registers_in (state_words s) 4 ≡ s.registers
  registers-there =
      rw (← spliced) (registers-other (splice blank registers_at (register_words s.registers)) records_at (frames_words s.frames) (inl (omega arith)) ∙ registers-same blank s.registers (omega (arith, blank-length)) y.gpr y.fpr y.cr)

  cr-there : get_or (state_words s) 69 0 ≡ s.registers.cr
  cr-there =
      rw (← spliced) (splice-at-other (splice blank registers_at (register_words s.registers)) records_at (frames_words s.frames) 69 0 (inl (omega arith)) ∙ cr-word blank s.registers (omega (arith, blank-length)) y.gpr y.fpr y.cr)

  frames-there : frames_in 32 (state_words s) 0 ≡ s.frames
  unfolding state_words
  frames-there = rw f at (frames-read s.frames (state_words s) 0 (drop_at (register_words s.registers) (frames_words s.frames) 66 words-66))

  numbers-there : (get_or (state_words s) 0 0 ≡ code_of s.convention) × (get_or (state_words s) 1 0 ≡ s.base) × (get_or (state_words s) 2 0 ≡ s.size) × (get_or (state_words s) 3 0 ≡ s.depth)
  unfolding state_words
  numbers-there = (refl, refl, refl, refl)

  pub state-words-back : state_in (state_words s) ≡ s
  unfolding state_in depth_in
  state-words-back =
      let machine : is_machine (state_words s) ≡ true = code-machine s.convention (state_words s) numbers-there.0 (rw cr-there y.cr) in
      rw (machine, numbers-there.0, numbers-there.1, numbers-there.2, numbers-there.3, code-back s.convention, registers-there, frames-there)

-- ---- start

module _ (c : Convention) (rs : List ℕ) (b n : ℕ) (l : length rs ≡ registers_words) where
  handed : Read (registers_in rs 0)
  handed = registers-read rs 0 (omega arith)

  pub start-state : (start_outcome c b n (registers_in rs 0)).answer ≡ Ok tt → state_in (start_words c rs b n) ≡ (start_outcome c b n (registers_in rs 0)).state
  unfolding start_words start_outcome started with_pointer cleared
  start-state e = rw e (state-words-back (started c b n (registers_in rs 0)) (record { gpr = simp length-set (lowered-length (rules c).limit (registers_in rs 0).gpr 32 ∙ handed.gpr); fpr = handed.fpr; cr = handed.cr }) refl)

  -- whatever CR's word is, 23 refuses these words (no-start of Refused)
  pub refused-state : get_or rs 65 0 < 2 ^ 32 → state_in (refused_words c rs) ≡ not_started c (registers_in rs 0)
  unfolding not_started registers_in
  refused-state h =
      let s = not_started c (registers_in rs 0) in
      let cr : get_or (state_words s) 69 0 ≡ get_or rs 65 0 = cr-there s handed refl ∙ mod-eq_of_lt h in
      let same : refused_words c rs ≡ state_words s = sym (refused-back rs l c) ∙ ap (λ (v : ℕ). set (state_words s) 69 v) (sym cr) ∙ set-get_or (state_words s) 69 0 in
      rw same (state-words-back s handed refl)

-- ---- enter

module _ (ws : List ℕ) (n : ℕ) (qs : List ℕ) (l : length ws ≡ machine_words) where
  entered-back : enter_answer (state_rules (state_in ws)) (state_in ws) n (frame_in qs 0) ≡ Ok tt
      → state_in (changed ws (entered (state_rules (state_in ws)) (state_in ws) (frame_in qs 0)) (state_in ws).depth) ≡ entered (state_rules (state_in ws)) (state_in ws) (frame_in qs 0)
  unfolding entered with_pointer enter_answer
  entered-back e =
      let s = state_in ws in
      let k = state_rules s in
      let can = (enter-yes k s n (frame_in qs 0) e).1 in
      let r = state-read ws l in
      let there : s.depth < length s.frames = omega (arith, can.shallow, frames-32 ws) in
      rw (changed-back ws l (accepted-machine k ws n _ e) (entered k s (frame_in qs 0)) s.depth can.shallow (simp length-set r.gpr) r.fpr r.cr, get_or-set_same s.frames s.depth (frame_in qs 0) no_frame there)

  pub enter-state : state_in (enter_words ws n qs) ≡ (enter_outcome (state_in ws) n (frame_in qs 0)).state
  unfolding enter_words enter_outcome
  enter-state = go (enter_answer (state_rules (state_in ws)) (state_in ws) n (frame_in qs 0)) refl
    where
      go : (a : FrameAnswer) → enter_answer (state_rules (state_in ws)) (state_in ws) n (frame_in qs 0) ≡ a → state_in (enter_words ws n qs) ≡ (enter_outcome (state_in ws) n (frame_in qs 0)).state
      go (Ok tt) e = rw e (entered-back e)
      go (Err x) e = rw e

-- ---- write

with-register-read : (r : Registers) (b : Option RegisterBank) (i v : ℕ) → Named b i v → Read r → Read (with_register r b i v)
unfolding with_register
with-register-read r (Some General) i v h y = record { gpr = simp length-set y.gpr; fpr = y.fpr; cr = y.cr }
with-register-read r (Some Floating) i v h y = record { gpr = y.gpr; fpr = simp length-set y.fpr; cr = y.cr }
with-register-read r (Some Link) i v h y = record { gpr = y.gpr; fpr = y.fpr; cr = y.cr }
with-register-read r (Some ConditionField) i v h y = record { gpr = y.gpr; fpr = y.fpr; cr = field_fit i r.cr v h.1 y.cr h.0 }
with-register-read r None i v h y = y

module _ (ws : List ℕ) (n b i v : ℕ) (l : length ws ≡ machine_words) where
  written_back : write_register_answer (state_rules (state_in ws)) (state_in ws) n b i v ≡ Ok tt
      → state_in (with_registers ws (written_register (state_in ws) b i v).registers) ≡ written_register (state_in ws) b i v
  unfolding written_register write_register_answer
  written_back e =
      let s = state_in ws in
      let k = state_rules s in
      let named = writable-named k (lawful s.convention) (top k s) (bank_of b) i v (write-register-yes k s n b i v e).1 in
      let r = with-register-read s.registers (bank_of b) i v named (state-read ws l) in
      registers-back ws l (accepted-machine k ws n _ e) (with_register s.registers (bank_of b) i v) r.gpr r.fpr r.cr

  pub write-register-state : state_in (write_register_words ws n b i v) ≡ (write_register_outcome (state_in ws) n b i v).state
  unfolding write_register_words write_register_outcome
  write-register-state = go (write_register_answer (state_rules (state_in ws)) (state_in ws) n b i v) refl
    where
      go : (a : FrameAnswer) → write_register_answer (state_rules (state_in ws)) (state_in ws) n b i v ≡ a → state_in (write_register_words ws n b i v) ≡ (write_register_outcome (state_in ws) n b i v).state
      go (Ok tt) e = rw e (written_back e)
      go (Err x) e = rw e

-- ---- leave

restored-read : (k : FrameRules) (f : Frame) (s : ℕ) (m : List ℕ) (p : ℕ) (r : Registers) → Read r → Read (restored k f s m p r)
unfolding restored
restored-read k f s m p r y = record {
  gpr = simp length-set (taken-length (gpr_save k.linkage k f s []) r.gpr m ∙ y.gpr);
  fpr = taken-length (fpr_save k f s []) r.fpr m ∙ y.fpr;
  cr = cr-fit k f s r m k.linkage r.cr y.cr;
}

module _ (ws m : List ℕ) (l : length ws ≡ machine_words) where
  left_back : leave_answer (state_rules (state_in ws)) (state_in ws) m ≡ Ok tt
      → state_in (changed ws (left (state_rules (state_in ws)) (state_in ws) m) (left (state_rules (state_in ws)) (state_in ws) m).depth) ≡ left (state_rules (state_in ws)) (state_in ws) m
  unfolding left leave_answer
  left_back e =
      let s = state_in ws in
      let k = state_rules s in
      let can = leave-yes k s m e in
      let size = frame_size k (top k s) in
      let r = restored-read k (top k s) (offset k s + size) m (stack_pointer k s + size) s.registers (state-read ws l) in
      let below : s.depth - 1 < 32 = omega (arith, can.deep, can.sound.shallow) in
      let there : s.depth - 1 < length s.frames = omega (arith, frames-32 ws) in
      rw (changed-back ws l (accepted-machine k ws (length m) _ e) (left k s m) (s.depth - 1) below r.gpr r.fpr r.cr, get_or-set_same s.frames (s.depth - 1) no_frame no_frame there)

  pub leave-state : state_in (leave_words ws m) ≡ (leave_outcome (state_in ws) m).state
  unfolding leave_words leave_outcome
  leave-state = go (leave_answer (state_rules (state_in ws)) (state_in ws) m) refl
    where
      go : (a : FrameAnswer) → leave_answer (state_rules (state_in ws)) (state_in ws) m ≡ a → state_in (leave_words ws m) ≡ (leave_outcome (state_in ws) m).state
      go (Ok tt) e = rw e (left_back e)
      go (Err x) e = rw e
