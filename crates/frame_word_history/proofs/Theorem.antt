-- Demand 3 of the exported calls, proved from that of the machine's own calls: reading the words after a call gives the state after the machine's call of what was read
-- before it, so a list over words holds where its reading does. Assumes nothing.
use Prim.Native.Nat.{ℕ, ◌+◌, ◌^◌}
use mathlib.Core.Path.{◌≡◌, refl, ap, ◌∙◌}
use mathlib.Core.List.{List, [], ◌∷◌}
use native.Mathlib.Omega.{arith}
use native.Mathlib.Nat.{mod-lt}
use lib.ListN.{length, get_or, drop, length-set, length-append, replicate}
use Rattle.base_words.specs.Splice.{part}
use Rattle.base_words.proofs.Splices.{length-splice, length_part}
use Rattle.base_words.proofs.Fitting.{fit-take, fit-drop}
use Rattle.base_conventions.specs.declared.Convention.{Convention}
use Rattle.frame_rules.specs.declared.FrameRules.{FrameRules}
use Rattle.frame_rules.specs.Rules.{rules}
use Rattle.frame_rules.specs.Frames.{no_frame, with_pointer, cleared}
use Rattle.frame_rules.proofs.Halves.{lowered-length}
use Rattle.frame_machine.specs.declared.State.{State}
use Rattle.frame_machine.specs.Answers.{FrameAnswer}
use Rattle.std.specs.Prelude.{Ok, Err}
use Rattle.frame_machine.specs.Answers.{settle}
use Rattle.frame_machine.specs.Machine.{start_answer, start_outcome, started, not_started, enter_outcome, enter_memory, write_register_outcome, write_memory_outcome, leave_outcome}
use Rattle.frame_word_layout.specs.Words.{machine_words, registers_words, registers_in, frame_in, state_in, state_words, register_words, with_registers}
use Rattle.frame_word_layout.specs.Calls.{changed, refused_words, start_words, enter_words, write_register_words, leave_words}
use Rattle.frame_word_layout.proofs.Laws.{length-register-words, length-frames-words}
use Rattle.frame_word_layout.proofs.Theorems.{start-state, enter-state, write-register-state, leave-state}
use Rattle.frame_history.specs.Calls as states
use Rattle.frame_history.specs.Preserved.{OpenEnter, open_after, RegistersFit}
use Rattle.frame_history.specs.Preserved as states-kept
use Rattle.frame_history.proofs.Theorem.{calls-hold}
use Rattle.frame_word_history.specs.Calls.{Call, enter, write_register, write_memory, leave, Lent, words_after, after, answer, fresh}
use Rattle.frame_word_history.specs.Demand3.{machine_in, call_in, calls_in, Holds, WordsFit, Demand3}

-- ---- a call over words is the machine's call

abbrev machine_of : List ℕ → State → states.Machine
machine_of l s = record { state = s; memory = l }

pub reading-after : (c : Call) (m : Lent) → length m.words ≡ machine_words → machine_in (after c m) ≡ states.after (call_in c) (machine_in m)
unfolding write_memory_outcome
reading-after (enter q) m h = ap (machine_of (enter_memory (state_in m.words) m.memory (frame_in q 0))) (enter-state m.words (length m.memory) q h)
reading-after (write_register b n v) m h = ap (machine_of m.memory) (write-register-state m.words (length m.memory) b n v h)
reading-after (write_memory a bs) m h = refl
reading-after leave m h = ap (machine_of m.memory) (leave-state m.words m.memory h)

pub answer-read : (c : Call) (m : Lent) → answer c m ≡ states.answer (call_in c) (machine_in m)
answer-read (enter q) m = refl
answer-read (write_register b n v) m = refl
answer-read (write_memory a bs) m = refl
answer-read leave m = refl

-- ---- the words keep their number

changed-length : (ws : List ℕ) (s : State) (i : ℕ) → length (changed ws s i) ≡ length ws
unfolding changed
changed-length ws s i = simp (length-splice, length-set)

settle-length : (a : FrameAnswer) (x y : List ℕ) → length x ≡ length y → length (settle a x y) ≡ length y
settle-length (Ok tt) x y h = h
settle-length (Err r) x y h = refl

pub words-length : (c : Call) (m : Lent) → length (words_after c m) ≡ length m.words
unfolding enter_words write_register_words leave_words
words-length (enter q) m =
    let o = enter_outcome (state_in m.words) (length m.memory) (frame_in q 0) in
    settle-length o.answer (changed m.words o.state (state_in m.words).depth) m.words (changed-length m.words o.state (state_in m.words).depth)
words-length (write_register b n v) m =
    let o = write_register_outcome (state_in m.words) (length m.memory) b n v in
    settle-length o.answer (with_registers m.words o.state.registers) m.words (length-splice m.words 4 (register_words o.state.registers))
words-length (write_memory a bs) m = refl
words-length leave m =
    let o = leave_outcome (state_in m.words) m.memory in
    settle-length o.answer (changed m.words o.state o.state.depth) m.words (changed-length m.words o.state o.state.depth)

-- a start's are 262
pub start-length : (c : Convention) (rs : List ℕ) (b n : ℕ) → length rs ≡ registers_words → length (start_words c rs b n) ≡ machine_words
unfolding start_words refused_words start_outcome started with_pointer cleared registers_in state_words
start-length c rs b n h = go (start_answer c b n)
  where
    g : length (part 0 32 rs) ≡ 32
    g = length_part 0 32 rs (omega arith)

    f : length (part (0 + 32) 32 rs) ≡ 32
    f = length_part (0 + 32) 32 rs (omega arith)

    go : (a : FrameAnswer) → length (settle a (state_words (settle a (started c b n (registers_in rs 0)) (not_started c (registers_in rs 0)))) (refused_words c rs)) ≡ machine_words
    go (Ok tt) = simp length-append (omega (arith, length-register-words (started c b n (registers_in rs 0)).registers (simp length-set (lowered-length (rules c).limit (part 0 32 rs) 32 ∙ g)) f, length-frames-words (replicate 32 no_frame)))
    go (Err x) = simp length-append (omega arith)

-- ---- a list of calls

holds_read : (k : FrameRules) (cs : List Call) (os : List OpenEnter) (m : Lent) → length m.words ≡ machine_words → states-kept.Holds k (calls_in cs) os (machine_in m) → Holds k cs os m
holds_read k [] os m h p = tt
holds_read k (c ∷ cs) os m h p =
    let e = reading-after c m h in
    let a = answer-read c m in
    (rw (a, e) p.0, holds_read k cs (open_after (call_in c) (answer c m) (machine_in m) os) (after c m) (words-length c m ∙ h) (rw (a, e) p.1))

-- ---- numbers are values of their types

pub registers-fit : (rs : List ℕ) → WordsFit registers_words rs → RegistersFit 8 (registers_in rs 0)
unfolding registers_in
registers-fit rs h = record {
  gprs = length_part 0 32 rs (omega (arith, h.count));
  fprs = length_part (0 + 32) 32 rs (omega (arith, h.count));
  gpr = fit-take 32 (drop 0 rs) (2 ^ 64) (fit-drop 0 rs (2 ^ 64) h.fit);
  fpr = fit-take 32 (drop (0 + 32) rs) (2 ^ 64) (fit-drop (0 + 32) rs (2 ^ 64) h.fit);
  lr = h.fit (0 + 64);
  cr = mod-lt (get_or rs (0 + 65) 0) (omega arith);
}

-- DEMAND 3
pub words-hold : Demand3
words-hold c b l rs h e cs w =
    holds_read (rules c) cs [] (fresh c b l rs) (start-length c rs b (length l) h.count)
    (rw (start-state c rs b (length l) h.count e) (calls-hold c b l (registers_in rs 0) (registers-fit rs h) e (calls_in cs) w))
