-- The laws of words read and written: what is copied word by word is a splice; a state's words, put one after the other, are all of them. Assumes nothing.
use Prim.Native.Nat.{ℕ, zero, suc, ◌+◌, ◌-◌, ◌*◌, ◌%◌, ◌^◌, ◌≤◌, ◌<◌}
use native.Mathlib.Numerals.{add-one}
use native.Mathlib.Omega.{arith}
use mathlib.Core.Path.{◌≡◌, refl, sym, ap, ◌∙◌}
use mathlib.Core.List.{List, [], ◌∷◌, ◌++◌}
use lib.ListN.{length, get_or, drop, set, replicate, length-append, take-append-drop, drop_of_length-le}
use lib.Seq.{drop-cons, drop-drop, set-append_left}
use Rattle.base_words.specs.Splice.{splice, part}
use Rattle.base_words.proofs.Splices.{length_part, splice-one, splice-nothing, splice-append, splice-next, splice-whole, part-next}
use Rattle.base_words.proofs.Basics.{set-behind}
use Rattle.base_conventions.specs.declared.Convention.{Convention}
use Rattle.base_conventions.specs.Numbers.{code_of}
use Rattle.frame_rules.specs.declared.Frame.{Frame}
use Rattle.frame_rules.specs.declared.Registers.{Registers}
use Rattle.frame_rules.specs.Frames.{no_frame}
use Rattle.frame_machine.specs.declared.State.{State}
use Rattle.frame_machine.specs.declared.FrameRefusal.{FrameRefusal}
use Rattle.frame_machine.specs.Answers.{FrameAnswer}
use Rattle.std.specs.Prelude.{Ok, Err}
use Rattle.frame_machine.specs.Answers.{settle}
use Rattle.frame_machine.specs.Machine.{state_rules, start_answer, started, not_started, start_outcome, enter_outcome, write_register_outcome, leave_outcome, left}
use Rattle.frame_machine.proofs.States.{enter-yes, leave-yes}
use Rattle.frame_word_layout.specs.Words.{machine_words, registers_words, record_words, registers_at, records_at, registers_in, frame_in, frames_in, state_in, register_words, frame_words, frames_words, state_words, with_registers}
use Rattle.frame_word_layout.specs.Calls.{changed, refused_words, start_words, enter_words, write_register_words, leave_words}

-- ---- lengths and shape

pub length-frames-words : (fs : List Frame) → length (frames_words fs) ≡ 6 * length fs
unfolding frames_words frame_words
length-frames-words [] = refl
length-frames-words (f ∷ fs) = omega (arith, length-frames-words fs)

pub length-register-words : (r : Registers) → length r.gpr ≡ 32 → length r.fpr ≡ 32 → length (register_words r) ≡ registers_words
unfolding register_words
length-register-words r g h = simp length-append (omega arith)

-- ---- word by word

module _ (l f : List ℕ) (at s n i : ℕ) (h : i < n) (k : s + n ≤ length f) where
  pub copy-turn : splice (set l (at + i) (get_or f (s + i) 0)) (at + (i + 1)) (part (s + (i + 1)) (n - (i + 1)) f) ≡ splice l (at + i) (part (s + i) (n - i) f)
  copy-turn =
      let a : at + (i + 1) ≡ at + i + 1 = omega arith in
      let b : s + (i + 1) ≡ s + i + 1 = omega arith in
      let m : n - i ≡ suc (n - (i + 1)) = omega arith in
      rw (a, b, m, part-next (s + i) (n - (i + 1)) f (omega arith)) (splice-next l (at + i) (get_or f (s + i) 0) (part (s + i + 1) (n - (i + 1)) f))

pub copy_start : (l f : List ℕ) (at s n : ℕ) → splice l (at + 0) (part (s + 0) (n - 0) f) ≡ splice l at (part s n f)
copy_start l f at s n =
    let a : at + 0 ≡ at = omega arith in
    let b : s + 0 ≡ s = omega arith in
    let m : n - 0 ≡ n = omega arith in
    cc

pub copy-end : (k : ℕ) (l f : List ℕ) (at s : ℕ) → k ≤ 0 → splice l at (part s k f) ≡ l
copy-end zero l f at s h = splice-nothing l at
copy-end (suc k) l f at s h = absurd (omega arith)

splice-set : (l : List ℕ) (at j x : ℕ) (xs : List ℕ) → splice l (at + j) (x ∷ xs) ≡ splice (set l (at + j) x) (at + (j + 1)) xs
splice-set l at j x xs = let e : at + (j + 1) ≡ at + j + 1 = omega arith in rw e (sym (splice-next l (at + j) x xs))

pub six-words : (l : List ℕ) (at a b c d e f : ℕ)
    → set (set (set (set (set (set l at a) (at + 1) b) (at + 2) c) (at + 3) d) (at + 4) e) (at + 5) f ≡ splice l at (a ∷ b ∷ c ∷ d ∷ e ∷ f ∷ [])
six-words l at a b c d e f =
    let l1 = set l at a in
    let l2 = set l1 (at + 1) b in
    let l3 = set l2 (at + 2) c in
    let l4 = set l3 (at + 3) d in
    let l5 = set l4 (at + 4) e in
    let l6 = set l5 (at + 5) f in
    sym (sym (splice-next l at a (b ∷ c ∷ d ∷ e ∷ f ∷ [])) ∙ splice-set l1 at 1 b (c ∷ d ∷ e ∷ f ∷ []) ∙ splice-set l2 at 2 c (d ∷ e ∷ f ∷ []) ∙ splice-set l3 at 3 d (e ∷ f ∷ []) ∙ splice-set l4 at 4 e (f ∷ []) ∙ splice-set l5 at 5 f []
    ∙ splice-nothing l6 (at + 6))

-- ---- records

frames-more : (n : ℕ) (ws : List ℕ) (i : ℕ) → frames_in (suc n) ws i ≡ frames_in n ws i ++ frame_in ws (records_at + record_words * (i + n)) ∷ []
unfolding frames_in
frames-more zero ws i = let e : i + 0 ≡ i = omega arith in rw e
frames-more (suc n) ws i = let e : i + suc n ≡ i + 1 + n = omega arith in rw e (ap (λ (t : List Frame). frame_in ws (records_at + record_words * i) ∷ t) (frames-more n ws (i + 1)))

pub frames-next : (n : ℕ) (ws : List ℕ) → frames_in (suc n) ws 0 ≡ frames_in n ws 0 ++ frame_in ws (records_at + record_words * n) ∷ []
frames-next n ws = let e : 0 + n ≡ n = omega arith in rw e at (frames-more n ws 0)

module _ (l : List ℕ) (fs : List Frame) (i : ℕ) (h : i < length fs) where
  pub frames-turn : splice (splice l (records_at + record_words * i) (frame_words (get_or fs i no_frame))) (records_at + record_words * (i + 1)) (frames_words (drop (i + 1) fs)) ≡ splice l (records_at + record_words * i) (frames_words (drop i fs))
  unfolding frames_words frame_words
  frames-turn =
      let e : records_at + record_words * (i + 1) ≡ records_at + record_words * i + 6 = omega arith in
      rw (e, drop-cons fs i no_frame, add-one) (sym (splice-append l (records_at + record_words * i) (frame_words (get_or fs i no_frame)) (frames_words (drop (suc i) fs))))

pub frames-end : (l : List ℕ) (fs : List Frame) (at i : ℕ) → length fs ≤ i → splice l at (frames_words (drop i fs)) ≡ l
unfolding frames_words
frames-end l fs at i h = rw (drop_of_length-le fs {i = i} h) (splice-nothing l at)

-- ---- registers, and a whole state

module _ (l : List ℕ) (r : Registers) (g : length r.gpr ≡ 32) (f : length r.fpr ≡ 32) where
  pub registers-put : set (set (splice (splice l 4 r.gpr) 36 r.fpr) 68 r.lr) 69 r.cr ≡ splice l registers_at (register_words r)
  unfolding register_words
  registers-put =
      let tail : List ℕ = r.lr ∷ r.cr ∷ [] in
      let a : splice l 4 (r.gpr ++ (r.fpr ++ tail)) ≡ splice (splice l 4 r.gpr) (4 + length r.gpr) (r.fpr ++ tail) = splice-append l 4 r.gpr (r.fpr ++ tail) in
      let b : splice (splice l 4 r.gpr) 36 (r.fpr ++ tail) ≡ splice (splice (splice l 4 r.gpr) 36 r.fpr) (36 + length r.fpr) tail = splice-append (splice l 4 r.gpr) 36 r.fpr tail in
      let m = splice (splice l 4 r.gpr) 36 r.fpr in
      let d : splice m 68 tail ≡ set (set m 68 r.lr) 69 r.cr = sym (splice-next m 68 r.lr (r.cr ∷ [])) ∙ splice-one (set m 68 r.lr) 69 r.cr in
      sym (rw (rw g at a, rw f at b) d)

module _ (l : List ℕ) (s : State) (n : length l ≡ machine_words) (r : length (register_words s.registers) ≡ registers_words) (f : length s.frames ≡ 32) where
  whole : length (state_words s) ≡ machine_words
  unfolding state_words
  whole = simp length-append (omega (arith, length-frames-words s.frames))

  pub state-put : splice (splice (set (set (set (set l 0 (code_of s.convention)) 1 s.base) 2 s.size) 3 s.depth) registers_at (register_words s.registers)) records_at (frames_words s.frames) ≡ state_words s
  unfolding state_words
  state-put =
      let rest : List ℕ = register_words s.registers ++ frames_words s.frames in
      let l0 = set l 0 (code_of s.convention) in
      let l1 = set l0 1 s.base in
      let l2 = set l1 2 s.size in
      let l3 = set l2 3 s.depth in
      let a : splice l 0 (state_words s) ≡ splice l3 4 rest
      = sym (splice-next l 0 (code_of s.convention) (s.base ∷ s.size ∷ s.depth ∷ rest)) ∙ sym (splice-next l0 1 s.base (s.size ∷ s.depth ∷ rest)) ∙ sym (splice-next l1 2 s.size (s.depth ∷ rest)) ∙ sym (splice-next l2 3 s.depth rest) in
      let b : splice l3 4 rest ≡ splice (splice l3 registers_at (register_words s.registers)) (4 + length (register_words s.registers)) (frames_words s.frames) = splice-append l3 4 (register_words s.registers) (frames_words s.frames) in
      sym (rw r at b) ∙ sym a ∙ splice-whole l (state_words s) (whole ∙ sym n)

-- ---- a start

module _ (rs : List ℕ) (l : length rs ≡ registers_words) where
  cut : part 0 32 rs ++ (part 32 32 rs ++ get_or rs 64 0 ∷ get_or rs 65 0 ∷ []) ≡ rs
  cut =
      let last : drop 64 rs ≡ get_or rs 64 0 ∷ get_or rs 65 0 ∷ []
      = drop-cons rs 64 0 (omega arith) ∙ ap (λ (t : List ℕ). get_or rs 64 0 ∷ t) (drop-cons rs 65 0 (omega arith) ∙ ap (λ (t : List ℕ). get_or rs 65 0 ∷ t) (drop_of_length-le rs {i = 66} (omega arith))) in
      let behind : part 32 32 rs ++ drop 64 rs ≡ drop 32 rs = ap (λ (t : List ℕ). part 32 32 rs ++ t) (sym (drop-drop 32 32 rs)) ∙ take-append-drop 32 (drop 32 rs) in
      ap (λ (t : List ℕ). part 0 32 rs ++ t) (ap (λ (t : List ℕ). part 32 32 rs ++ t) (sym last) ∙ behind) ∙ take-append-drop 32 rs

  -- the registers read, with CR's word as it came, are the words handed in
  handed-back : set (register_words (registers_in rs 0)) 65 (get_or rs 65 0) ≡ rs
  unfolding register_words registers_in
  handed-back =
      let cr = get_or rs 65 0 % 2 ^ 32 in
      set-behind (part 0 32 rs) (part 32 32 rs ++ get_or rs 64 0 ∷ cr ∷ []) 32 33 (get_or rs 65 0) (length_part 0 32 rs (omega arith))
      ∙ ap (λ (t : List ℕ). part 0 32 rs ++ t) (set-behind (part 32 32 rs) (get_or rs 64 0 ∷ cr ∷ []) 32 1 (get_or rs 65 0) (length_part 32 32 rs (omega arith)))
      ∙ cut

  handed-length : length (register_words (registers_in rs 0)) ≡ registers_words
  unfolding registers_in
  handed-length = length-register-words (registers_in rs 0) (length_part 0 32 rs (omega arith)) (length_part 32 32 rs (omega arith))

  pub refused-back : (c : Convention) → set (state_words (not_started c (registers_in rs 0))) 69 (get_or rs 65 0) ≡ refused_words c rs
  unfolding state_words not_started refused_words frames_words frame_words
  refused-back c =
      let zeros : List ℕ = replicate 192 0 in
      ap (λ (t : List ℕ). code_of c ∷ 0 ∷ 0 ∷ 0 ∷ t) (set-append_left (register_words (registers_in rs 0)) zeros 65 (get_or rs 65 0) (omega (arith, handed-length)) ∙ ap (λ (t : List ℕ). t ++ zeros) handed-back)

  -- a start's words are its state's, where it is refused with CR's word as it came
  pub start-words : (c : Convention) (b n : ℕ)
      → settle (start_outcome c b n (registers_in rs 0)).answer (state_words (start_outcome c b n (registers_in rs 0)).state) (set (state_words (start_outcome c b n (registers_in rs 0)).state) 69 (get_or rs 65 0))
      ≡ start_words c rs b n
  unfolding start_words start_outcome
  start-words c b n = go (start_answer c b n)
    where
      r : Registers
      r = registers_in rs 0

      go : (a : FrameAnswer) → settle a (state_words (settle a (started c b n r) (not_started c r))) (set (state_words (settle a (started c b n r) (not_started c r))) 69 (get_or rs 65 0))
          ≡ settle a (state_words (settle a (started c b n r) (not_started c r))) (refused_words c rs)
      go (Ok tt) = refl
      go (Err x) = refused-back c

-- ---- the words after a call

module _ (ws : List ℕ) (n : ℕ) (qs : List ℕ) where
  pub enter-depth : (enter_outcome (state_in ws) n (frame_in qs 0)).answer ≡ Ok tt → (state_in ws).depth < 32
  unfolding enter_outcome
  enter-depth h = (enter-yes (state_rules (state_in ws)) (state_in ws) n (frame_in qs 0) h).1.shallow

  pub enter-yes-words : (enter_outcome (state_in ws) n (frame_in qs 0)).answer ≡ Ok tt
      → changed ws (enter_outcome (state_in ws) n (frame_in qs 0)).state (state_in ws).depth ≡ enter_words ws n qs
  unfolding enter_words
  enter-yes-words h = rw h

  pub enter-no-words : (x : FrameRefusal) → (enter_outcome (state_in ws) n (frame_in qs 0)).answer ≡ Err x → ws ≡ enter_words ws n qs
  unfolding enter_words
  enter-no-words x h = rw h

module _ (ws : List ℕ) (n b i v : ℕ) where
  pub write-yes-words : (write_register_outcome (state_in ws) n b i v).answer ≡ Ok tt
      → with_registers ws (write_register_outcome (state_in ws) n b i v).state.registers ≡ write_register_words ws n b i v
  unfolding write_register_words
  write-yes-words h = rw h

  pub write-no-words : (x : FrameRefusal) → (write_register_outcome (state_in ws) n b i v).answer ≡ Err x → ws ≡ write_register_words ws n b i v
  unfolding write_register_words
  write-no-words x h = rw h

module _ (ws l : List ℕ) where
  pub leave-depth : (leave_outcome (state_in ws) l).answer ≡ Ok tt → (leave_outcome (state_in ws) l).state.depth < 32
  unfolding leave_outcome left
  leave-depth h =
      let can = leave-yes (state_rules (state_in ws)) (state_in ws) l h in
      rw h (omega (arith, can.deep, can.sound.shallow))

  pub leave-yes-words : (leave_outcome (state_in ws) l).answer ≡ Ok tt
      → changed ws (leave_outcome (state_in ws) l).state (leave_outcome (state_in ws) l).state.depth ≡ leave_words ws l
  unfolding leave_words
  leave-yes-words h = rw h

  pub leave-no-words : (x : FrameRefusal) → (leave_outcome (state_in ws) l).answer ≡ Err x → ws ≡ leave_words ws l
  unfolding leave_words
  leave-no-words x h = rw h
