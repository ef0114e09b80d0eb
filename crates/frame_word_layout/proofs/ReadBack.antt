-- What a call puts back is read as the state after it: calls over words, one after the other, are the calls of the machine on its states. Assumes nothing.
use Prim.Native.Nat.{ℕ, zero, suc, ◌+◌, ◌-◌, ◌*◌, ◌%◌, ◌^◌, ◌≤◌, ◌<◌}
use native.Mathlib.Nat.{mod-eq_of_lt}
use native.Mathlib.Omega.{arith}
use mathlib.Core.Path.{◌≡◌, refl, sym, ap, ◌∙◌}
use mathlib.Core.Logic.{inl, inr}
use mathlib.Core.Bool.{Bool, true, false, ◌&&◌}
use mathlib.Core.List.{List, [], ◌∷◌}
use lib.ListN.{length, get_or, set, length-set}
use lib.Dec.{leb, eqb}
use lib.Seq.{get_or-set_same, get_or-set_other}
use borrow.Author.Tests.{le-leb}
use Rattle.base_words.specs.Splice.{splice, part}
use Rattle.base_words.proofs.Splices.{Apart, length-splice, splice-one, splice-same, splice-at-same, splice-other, splice-at-other}
use Rattle.frame_rules.specs.declared.Frame.{Frame}
use Rattle.frame_rules.specs.declared.Registers.{Registers}
use Rattle.base_words.specs.Basics.{pick, flag}
use Rattle.base_words.proofs.Tests.{and_yes, flag-leb, flag-eqb}
use Rattle.frame_rules.specs.Frames.{no_frame}
use Rattle.frame_machine.specs.declared.State.{State}
use Rattle.frame_machine.specs.Machine.{frame_at}
use Rattle.base_conventions.specs.Numbers.{convention_code}
use Rattle.frame_word_layout.specs.Words.{machine_words, registers_words, record_words, registers_at, records_at, is_known, is_machine, depth_in, registers_in, frame_in, frames_in, state_in, register_words, frame_words, with_registers, with_frame}
use Rattle.frame_word_layout.specs.Calls.{changed}
use Rattle.frame_word_layout.proofs.Laws.{registers-put, length-register-words}

-- ---- a record

pub flag-back : (b c : Bool) (g m l p : ℕ)
    → pick (leb (flag b) 1 && leb (flag c) 1) (record { first_gpr = g; first_fpr = m; saves_cr = eqb (flag b) 1; locals = l; outgoing = p; leaf = eqb (flag c) 1 }) no_frame
    ≡ record { first_gpr = g; first_fpr = m; saves_cr = b; locals = l; outgoing = p; leaf = c }
flag-back b c g m l p = rw (flag-leb b, flag-leb c, flag-eqb b, flag-eqb c)

pub frame_same : (l : List ℕ) (at : ℕ) (f : Frame) → at + record_words ≤ length l → frame_in (splice l at (frame_words f)) at ≡ f
unfolding frame_in frame_words
frame_same l at f h =
    let at-0 : at + 0 ≡ at = omega arith in
    let w0 = rw at-0 at (splice-at-same l at (frame_words f) 0 0 h (omega arith)) in
    let w1 = splice-at-same l at (frame_words f) 1 0 h (omega arith) in
    let w2 = splice-at-same l at (frame_words f) 2 0 h (omega arith) in
    let w3 = splice-at-same l at (frame_words f) 3 0 h (omega arith) in
    let w4 = splice-at-same l at (frame_words f) 4 0 h (omega arith) in
    let w5 = splice-at-same l at (frame_words f) 5 0 h (omega arith) in
    rw (w0, w1, w2, w3, w4, w5) (flag-back f.saves_cr f.leaf f.first_gpr f.first_fpr f.locals f.outgoing)

pub frame-agree : (l m : List ℕ) (at : ℕ) → ((j : ℕ) → at ≤ j → j < at + 6 → get_or l j 0 ≡ get_or m j 0) → frame_in l at ≡ frame_in m at
unfolding frame_in
frame-agree l m at h =
    rw (
      h at (omega arith) (omega arith),
      h (at + 1) (omega arith) (omega arith),
      h (at + 2) (omega arith) (omega arith),
      h (at + 3) (omega arith) (omega arith),
      h (at + 4) (omega arith) (omega arith),
      h (at + 5) (omega arith) (omega arith),
    )

pub frame-other : (l : List ℕ) (n : ℕ) (f : Frame) (at : ℕ) → Apart at 6 n 6 → frame_in (splice l n (frame_words f)) at ≡ frame_in l at
unfolding frame_words
frame-other l n f at (inl h) = frame-agree _ l at (λ j a b. splice-at-other l n (frame_words f) j 0 (inl (omega arith)))
frame-other l n f at (inr h) = frame-agree _ l at (λ j a b. splice-at-other l n (frame_words f) j 0 (inr (omega arith)))

pub frames-agree : (n : ℕ) (l m : List ℕ) (i : ℕ) → ((j : ℕ) → i ≤ j → j < i + n → frame_in l (records_at + record_words * j) ≡ frame_in m (records_at + record_words * j)) → frames_in n l i ≡ frames_in n m i
unfolding frames_in
frames-agree zero l m i h = refl
frames-agree (suc n) l m i h = rw (h i (omega arith) (omega arith), frames-agree n l m (i + 1) (λ j a b. h j (omega arith) (omega arith)))

-- one record is put, and the others stay
pub frames-set : (n : ℕ) (l : List ℕ) (i k : ℕ) (f : Frame) → k < n → records_at + record_words * (i + n) ≤ length l
    → frames_in n (splice l (records_at + record_words * (i + k)) (frame_words f)) i ≡ set (frames_in n l i) k f
unfolding frames_in
frames-set zero l i k f h r = absurd (omega arith)
frames-set (suc n) l i zero f h r =
    let here : i + 0 ≡ i = omega arith in
    rw here
    (rw (frame_same l (records_at + record_words * i) f (omega arith), frames-agree n (splice l (records_at + record_words * i) (frame_words f)) l (i + 1) (λ j a b. frame-other l (records_at + record_words * i) f (records_at + record_words * j) (inr (omega arith)))))
frames-set (suc n) l i (suc k) f h r =
    let there : i + suc k ≡ i + 1 + k = omega arith in
    rw there (rw (frame-other l (records_at + record_words * (i + 1 + k)) f (records_at + record_words * i) (inl (omega arith)), frames-set n l (i + 1) k f (omega arith) (omega arith)))

-- ---- registers

module _ (l : List ℕ) (r : Registers) (n : records_at ≤ length l) (g : length r.gpr ≡ 32) (f : length r.fpr ≡ 32) (c : r.cr < 2 ^ 32) where
  general : List ℕ
  general = splice l 4 r.gpr

  banks : List ℕ
  banks = splice general 36 r.fpr

  linked : List ℕ
  linked = splice banks 68 (r.lr ∷ [])

  put_is : splice l registers_at (register_words r) ≡ splice linked 69 (r.cr ∷ [])
  unfolding general banks linked
  put_is = sym (registers-put l r g f) ∙ rw (splice-one, splice-one)

  rooms : (length general ≡ length l) × (length banks ≡ length l) × (length linked ≡ length l)
  unfolding general banks linked
  rooms =
      let a = length-splice l 4 r.gpr in
      let b = length-splice (splice l 4 r.gpr) 36 r.fpr in
      let d = length-splice (splice (splice l 4 r.gpr) 36 r.fpr) 68 (r.lr ∷ []) in
      (a, b ∙ a, d ∙ b ∙ a)

  pub cr-word : get_or (splice l registers_at (register_words r)) 69 0 ≡ r.cr
  cr-word = rw put_is (splice-at-same linked 69 (r.cr ∷ []) 0 0 (omega (arith, rooms.2)) (omega arith))

  pub registers-same : registers_in (splice l registers_at (register_words r)) 4 ≡ r
  unfolding registers_in general banks linked
  registers-same =
      let tail = r.cr ∷ [] in
      let a : part 4 32 (splice linked 69 tail) ≡ r.gpr
      = splice-other linked 69 tail 4 32 (inl (omega arith)) ∙ splice-other banks 68 (r.lr ∷ []) 4 32 (inl (omega arith)) ∙ splice-other general 36 r.fpr 4 32 (inl (omega arith)) ∙ rw g at (splice-same l 4 r.gpr (omega arith)) in
      let b : part 36 32 (splice linked 69 tail) ≡ r.fpr
      = splice-other linked 69 tail 36 32 (inl (omega arith)) ∙ splice-other banks 68 (r.lr ∷ []) 36 32 (inl (omega arith)) ∙ rw f at (splice-same general 36 r.fpr (omega (arith, rooms.0))) in
      let d : get_or (splice linked 69 tail) 68 0 ≡ r.lr
      = splice-at-other linked 69 tail 68 0 (inl (omega arith)) ∙ splice-at-same banks 68 (r.lr ∷ []) 0 0 (omega (arith, rooms.1)) (omega arith) in
      let e : get_or (splice linked 69 tail) 69 0 % 2 ^ 32 ≡ r.cr
      = ap (λ (x : ℕ). x % 2 ^ 32) (splice-at-same linked 69 tail 0 0 (omega (arith, rooms.2)) (omega arith)) ∙ mod-eq_of_lt c in
      rw (put_is, a, b, d, e)

-- ---- what a write elsewhere leaves

module _ (ws : List ℕ) (n : ℕ) (bs : List ℕ) where
  pub registers-other : Apart registers_at registers_words n (length bs) → registers_in (splice ws n bs) 4 ≡ registers_in ws registers_at
  unfolding registers_in
  registers-other (inl h) =
      rw (splice-other ws n bs 4 32 (inl (omega arith)), splice-other ws n bs 36 32 (inl (omega arith)), splice-at-other ws n bs 68 0 (inl (omega arith)), splice-at-other ws n bs 69 0 (inl (omega arith)))
  registers-other (inr h) =
      rw (splice-other ws n bs 4 32 (inr (omega arith)), splice-other ws n bs 36 32 (inr (omega arith)), splice-at-other ws n bs 68 0 (inr (omega arith)), splice-at-other ws n bs 69 0 (inr (omega arith)))

  frames-other : n + length bs ≤ records_at → frames_in 32 (splice ws n bs) 0 ≡ frames_in 32 ws 0
  frames-other h = frames-agree 32 (splice ws n bs) ws 0 (λ j a b. frame-agree (splice ws n bs) ws (records_at + record_words * j) (λ k c d. splice-at-other ws n bs k 0 (inr (omega arith))))

-- ---- a state whose depth, registers or one record is put

module _ (ws : List ℕ) (n : length ws ≡ machine_words) (m : is_machine ws ≡ true) where
  pub depth-machine : (d : ℕ) → is_machine (set ws 3 d) ≡ true
  unfolding is_machine
  depth-machine d = rw (get_or-set_other ws 3 0 d 0 (λ e. omega arith), get_or-set_other ws 3 69 d 0 (λ e. omega arith)) m

  pub depth-back : (d : ℕ) → state_in (set ws 3 d) ≡ record { convention = (state_in ws).convention; base = (state_in ws).base; size = (state_in ws).size; depth = d; registers = (state_in ws).registers; frames = (state_in ws).frames }
  unfolding state_in depth_in
  depth-back d =
      rw (
        depth-machine d,
        get_or-set_other ws 3 0 d 0 (λ e. omega arith),
        get_or-set_other ws 3 1 d 0 (λ e. omega arith),
        get_or-set_other ws 3 2 d 0 (λ e. omega arith),
        get_or-set_same ws 3 d 0 (omega arith),
        rw (splice-one ws 3 d) at (registers-other ws 3 (d ∷ []) (inr (omega arith))),
        rw (splice-one ws 3 d) at (frames-other ws 3 (d ∷ []) (omega arith)),
      )

  module _ (r : Registers) (g : length r.gpr ≡ 32) (f : length r.fpr ≡ 32) (c : r.cr < 2 ^ 32) where
    words-66 : length (register_words r) ≡ registers_words
    words-66 = length-register-words r g f

    registers-machine : is_machine (with_registers ws r) ≡ true
    unfolding is_machine
    registers-machine =
        let a = and_yes (is_known (convention_code (get_or ws 0 0))) _ m in
        rw (splice-at-other ws 4 (register_words r) 0 0 (inl (omega arith)), cr-word ws r (omega arith) g f c, a.0) (le-leb r.cr (2 ^ 32 - 1) (omega arith))

    pub registers-back : state_in (with_registers ws r) ≡ record { convention = (state_in ws).convention; base = (state_in ws).base; size = (state_in ws).size; depth = (state_in ws).depth; registers = r; frames = (state_in ws).frames }
    unfolding state_in depth_in
    registers-back =
        rw (
          registers-machine,
          m,
          splice-at-other ws 4 (register_words r) 0 0 (inl (omega arith)),
          splice-at-other ws 4 (register_words r) 1 0 (inl (omega arith)),
          splice-at-other ws 4 (register_words r) 2 0 (inl (omega arith)),
          splice-at-other ws 4 (register_words r) 3 0 (inl (omega arith)),
          registers-same ws r (omega arith) g f c,
          frames-other ws 4 (register_words r) (omega (arith, words-66)),
        )

  module _ (i : ℕ) (f : Frame) (h : i < 32) where
    frame-machine : is_machine (with_frame ws i f) ≡ true
    unfolding is_machine
    frame-machine = rw (splice-at-other ws (records_at + record_words * i) (frame_words f) 0 0 (inl (omega arith)), splice-at-other ws (records_at + record_words * i) (frame_words f) 69 0 (inl (omega arith))) m

    pub frame_back : state_in (with_frame ws i f) ≡ record { convention = (state_in ws).convention; base = (state_in ws).base; size = (state_in ws).size; depth = (state_in ws).depth; registers = (state_in ws).registers; frames = set (state_in ws).frames i f }
    unfolding state_in depth_in
    frame_back =
        let from-0 : 0 + i ≡ i = omega arith in
        rw (
          frame-machine,
          m,
          splice-at-other ws (records_at + record_words * i) (frame_words f) 0 0 (inl (omega arith)),
          splice-at-other ws (records_at + record_words * i) (frame_words f) 1 0 (inl (omega arith)),
          splice-at-other ws (records_at + record_words * i) (frame_words f) 2 0 (inl (omega arith)),
          splice-at-other ws (records_at + record_words * i) (frame_words f) 3 0 (inl (omega arith)),
          registers-other ws (records_at + record_words * i) (frame_words f) (inl (omega arith)),
          rw from-0 at (frames-set 32 ws 0 i f h (omega arith)),
        )

-- what an enter or a leave puts
module _ (ws : List ℕ) (n : length ws ≡ machine_words) (m : is_machine ws ≡ true) (s : State) (i : ℕ) (h : i < 32) (g : length s.registers.gpr ≡ 32) (f : length s.registers.fpr ≡ 32) (c : s.registers.cr < 2 ^ 32) where
  pub changed-back : state_in (changed ws s i)
      ≡ record { convention = (state_in ws).convention; base = (state_in ws).base; size = (state_in ws).size; depth = s.depth; registers = s.registers; frames = set (state_in ws).frames i (frame_at s.frames i) }
  unfolding changed
  changed-back =
      let deep : List ℕ = set ws 3 s.depth in
      let deep-length : length deep ≡ machine_words = simp length-set n in
      let deep-machine = depth-machine ws n m s.depth in
      let full : List ℕ = with_registers deep s.registers in
      let full-length : length full ≡ machine_words = length-splice deep registers_at (register_words s.registers) ∙ deep-length in
      let full-machine = registers-machine deep deep-length deep-machine s.registers g f c in
      rw (frame_back full full-length full-machine i (frame_at s.frames i) h, registers-back deep deep-length deep-machine s.registers g f c, depth-back ws n m s.depth)
