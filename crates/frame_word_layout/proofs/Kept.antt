-- What a call does not change stays word for word: an accepted enter changes the depth, the stack pointer's word and its record, an accepted write of a register that register's word alone,
-- an accepted leave the depth, the registers that it restores and its record, which it zeroes. Assumes nothing.
use Prim.Native.Nat.{ℕ, ◌+◌, ◌-◌, ◌%◌, ◌^◌, ◌<◌}
use native.Mathlib.Nat.{mod-eq_of_lt}
use native.Mathlib.Omega.{arith}
use mathlib.Core.Path.{◌≡◌, sym, ◌∙◌}
use mathlib.Core.Logic.{inr}
use mathlib.Core.Bool.{true, false≢true}
use mathlib.Core.List.{List, [], ◌∷◌}
use lib.ListN.{length, get_or, set, length-set}
use lib.Seq.{set-get_or, get_or-set_same, get_or-set_other}
use borrow.Author.Tests.{leb-true}
use Rattle.base_words.specs.Splice.{splice, part}
use Rattle.base_words.proofs.Splices.{Apart, length_part, splice-one, splice-other, splice-part, splice-with}
use Rattle.base_words.proofs.Tests.{and_yes}
use Rattle.base_conventions.specs.declared.Convention.{Convention}
use Rattle.base_conventions.specs.Numbers.{convention_code}
use Rattle.frame_rules.specs.declared.FrameRules.{FrameRules}
use Rattle.frame_rules.specs.declared.RegisterBank.{RegisterBank}
use Rattle.frame_rules.specs.declared.RegisterBank.TheVariants.{General, Floating, Link, ConditionField}
use Rattle.frame_rules.specs.Helpers.{Named}
use Rattle.frame_rules.specs.Rules.{rules}
use Rattle.frame_rules.specs.Frames.{no_frame, frame_size, with_pointer, restored, bank_of, writable_register, with_condition_field, with_register}
use Rattle.frame_rules.proofs.Conventions.{lawful}
use Rattle.frame_rules.proofs.Writing.{writable-named}
use Rattle.std.specs.Prelude.{Ok, Option, Some, None}
use Rattle.frame_machine.specs.Machine.{state_rules, stack_pointer, offset, top, enter_answer, entered, enter_outcome, write_register_answer, written_register, write_register_outcome, leave_answer, left, leave_outcome}
use Rattle.frame_machine.proofs.States.{enter-yes, write-register-yes, leave-yes}
use Rattle.frame_word_layout.specs.Words.{machine_words, registers_at, is_known, is_machine, registers_in, frame_in, state_in, with_registers, with_frame}
use Rattle.frame_word_layout.specs.Calls.{changed, enter_words, write_register_words, leave_words}
use Rattle.frame_word_layout.proofs.Laws.{registers-put}
use Rattle.frame_word_layout.proofs.ReadBack.{registers-other, depth-machine}
use Rattle.frame_word_layout.proofs.Theorems.{accepted-machine, frames-32}

-- ---- the registers' words, where one word differs from what is there

module _ (ws : List ℕ) (a v : ℕ) where
  part-kept : (n m : ℕ) → Apart n m a 1 → splice (set ws a v) n (part n m ws) ≡ set ws a v
  part-kept n m h =
      let same : part n m (set ws a v) ≡ part n m ws = rw (splice-one ws a v) at (splice-other ws a (v ∷ []) n m h) in
      rw (← same) (splice-part (set ws a v) n m)

  word_kept : (b : ℕ) → (b ≡ a → ⊥) → set (set ws a v) b (get_or ws b 0) ≡ set ws a v
  word_kept b h = rw (← get_or-set_other ws a b v 0 h) (set-get_or (set ws a v) b 0)

module _ (ws : List ℕ) (n : length ws ≡ machine_words) (m : is_machine ws ≡ true) where
  cr-kept : get_or ws 69 0 % 2 ^ 32 ≡ get_or ws 69 0
  unfolding is_machine
  cr-kept =
      let a = and_yes (is_known (convention_code (get_or ws 0 0))) _ m in
      let small = leb-true (get_or ws 69 0) (2 ^ 32 - 1) a.1 in
      mod-eq_of_lt (omega arith)

  general : length (part 4 32 ws) ≡ 32
  general = length_part 4 32 ws (omega arith)

  floating : length (part 36 32 ws) ≡ 32
  floating = length_part 36 32 ws (omega arith)

  pub general-put : (i v : ℕ) → i < 32 → with_registers ws (record { gpr = set (part 4 32 ws) i v; fpr = part 36 32 ws; lr = get_or ws 68 0; cr = get_or ws 69 0 }) ≡ set ws (4 + i) v
  general-put i v h =
      sym (registers-put ws (record { gpr = set (part 4 32 ws) i v; fpr = part 36 32 ws; lr = get_or ws 68 0; cr = get_or ws 69 0 }) (simp length-set general) floating)
      ∙ rw (splice-with ws 4 (part 4 32 ws) i v (omega (arith, general)), splice-part ws 4 32, part-kept ws (4 + i) v 36 32 (inr (omega arith)), word_kept ws (4 + i) v 68 (λ e. omega arith)) (word_kept ws (4 + i) v 69 (λ e. omega arith))

  pub floating-put : (i v : ℕ) → i < 32 → with_registers ws (record { gpr = part 4 32 ws; fpr = set (part 36 32 ws) i v; lr = get_or ws 68 0; cr = get_or ws 69 0 }) ≡ set ws (36 + i) v
  floating-put i v h =
      sym (registers-put ws (record { gpr = part 4 32 ws; fpr = set (part 36 32 ws) i v; lr = get_or ws 68 0; cr = get_or ws 69 0 }) general (simp length-set floating))
      ∙ rw (splice-part ws 4 32, splice-with ws 36 (part 36 32 ws) i v (omega (arith, floating)), splice-part ws 36 32, word_kept ws (36 + i) v 68 (λ e. omega arith)) (word_kept ws (36 + i) v 69 (λ e. omega arith))

  pub lr-put : (v : ℕ) → with_registers ws (record { gpr = part 4 32 ws; fpr = part 36 32 ws; lr = v; cr = get_or ws 69 0 }) ≡ set ws 68 v
  lr-put v =
      sym (registers-put ws (record { gpr = part 4 32 ws; fpr = part 36 32 ws; lr = v; cr = get_or ws 69 0 }) general floating)
      ∙ rw (splice-part ws 4 32, splice-part ws 36 32) (word_kept ws 68 v 69 (λ e. omega arith))

  pub cr-put : (v : ℕ) → with_registers ws (record { gpr = part 4 32 ws; fpr = part 36 32 ws; lr = get_or ws 68 0; cr = v }) ≡ set ws 69 v
  cr-put v =
      sym (registers-put ws (record { gpr = part 4 32 ws; fpr = part 36 32 ws; lr = get_or ws 68 0; cr = v }) general floating)
      ∙ rw (splice-part ws 4 32, splice-part ws 36 32, set-get_or ws 68 0)

  -- a new stack pointer is one word
  pub pointer-put : (k : FrameRules) (p : ℕ) → k.pointer < 32 → with_registers ws (with_pointer k (registers_in ws registers_at) p) ≡ set ws (4 + k.pointer) p
  unfolding with_pointer registers_in
  pointer-put k p h = rw cr-kept (general-put k.pointer p h)

-- ---- enter

pointer-small : (c : Convention) → (rules c).pointer < 32
pointer-small c = (lawful c).pointer

module _ (ws : List ℕ) (n : ℕ) (qs : List ℕ) (l : length ws ≡ machine_words) where
  -- the depth, the stack pointer's word and the record
  pub enter-changes : enter_answer (state_rules (state_in ws)) (state_in ws) n (frame_in qs 0) ≡ Ok tt
      → enter_words ws n qs
      ≡ with_frame (set (set ws 3 ((state_in ws).depth + 1)) (4 + (state_rules (state_in ws)).pointer) (stack_pointer (state_rules (state_in ws)) (state_in ws) - frame_size (state_rules (state_in ws)) (frame_in qs 0))) (state_in ws).depth (frame_in qs 0)
  unfolding enter_words enter_outcome enter_answer entered changed state_in
  enter-changes e =
      let s = state_in ws in
      let k = state_rules s in
      let f = frame_in qs 0 in
      let deep : List ℕ = set ws 3 (s.depth + 1) in
      let can = (enter-yes k s n f e).1 in
      let same : registers_in deep 4 ≡ registers_in ws registers_at = rw (splice-one ws 3 (s.depth + 1)) at (registers-other ws 3 ((s.depth + 1) ∷ []) (inr (omega arith))) in
      let there : s.depth < length s.frames = omega (arith, can.shallow, frames-32 ws) in
      let put = pointer-put deep (simp length-set l) (depth-machine ws l (accepted-machine k ws n _ e) (s.depth + 1)) k (stack_pointer k s - frame_size k f) (pointer-small s.convention) in
      rw (e, get_or-set_same s.frames s.depth f no_frame there, rw same at put)

-- ---- write

-- the word that a register stands in, and what it holds after a write of v
abbrev pub register_word : Option RegisterBank → ℕ → ℕ
register_word (Some General) i = 4 + i
register_word (Some Floating) i = 36 + i
register_word (Some Link) i = 68
register_word (Some ConditionField) i = 69
register_word None i = 0

abbrev pub word_after : Option RegisterBank → ℕ → ℕ → ℕ → ℕ
word_after (Some General) cr i v = v
word_after (Some Floating) cr i v = v
word_after (Some Link) cr i v = v
word_after (Some ConditionField) cr i v = with_condition_field cr i v
word_after None cr i v = v

module _ (ws : List ℕ) (n b i v : ℕ) (l : length ws ≡ machine_words) where
  one_word : (k : FrameRules) → is_machine ws ≡ true → (c : Option RegisterBank) → Named c i v → writable_register k (top k (state_in ws)) c i v ≡ true
      → with_registers ws (with_register (registers_in ws registers_at) c i v) ≡ set ws (register_word c i) (word_after c (get_or ws 69 0) i v)
  unfolding registers_in with_register writable_register
  one_word k m (Some General) h w = rw (cr-kept ws l m) (general-put ws l m i v h)
  one_word k m (Some Floating) h w = rw (cr-kept ws l m) (floating-put ws l m i v h)
  one_word k m (Some Link) h w = rw (cr-kept ws l m) (lr-put ws l m v)
  one_word k m (Some ConditionField) h w = rw (cr-kept ws l m) (cr-put ws l m (with_condition_field (get_or ws 69 0) i v))
  one_word k m None h w = absurd (false≢true w)

  -- the one register's word
  pub write-changes : write_register_answer (state_rules (state_in ws)) (state_in ws) n b i v ≡ Ok tt
      → write_register_words ws n b i v ≡ set ws (register_word (bank_of b) i) (word_after (bank_of b) (get_or ws 69 0) i v)
  unfolding write_register_words write_register_outcome write_register_answer written_register state_in
  write-changes e =
      let s = state_in ws in
      let k = state_rules s in
      let yes = (write-register-yes k s n b i v e).1 in
      rw e (one_word k (accepted-machine k ws n _ e) (bank_of b) (writable-named k (lawful s.convention) (top k s) (bank_of b) i v yes) yes)

-- ---- leave

module _ (ws m : List ℕ) where
  -- the depth, the registers as restored, and the record
  pub leave-changes : leave_answer (state_rules (state_in ws)) (state_in ws) m ≡ Ok tt
      → leave_words ws m
      ≡ (let s = state_in ws in
      let k = state_rules s in
      let size = frame_size k (top k s) in
      with_frame (with_registers (set ws 3 (s.depth - 1)) (restored k (top k s) (offset k s + size) m (stack_pointer k s + size) s.registers)) (s.depth - 1) no_frame)
  unfolding leave_words leave_outcome left changed
  leave-changes e =
      let s = state_in ws in
      let can = leave-yes (state_rules s) s m e in
      let there : s.depth - 1 < length s.frames = omega (arith, can.deep, can.sound.shallow, frames-32 ws) in
      rw (e, get_or-set_same s.frames (s.depth - 1) no_frame no_frame there)
