-- Lists of the exported calls of the frame machine, each lent words and memory as the one before left them. The answer of a call and what it leaves in the words and in
-- the memory stand here as the contracts of `fz_start_ppc64`, `fz_start_z`, `fz_start_aix`, `fz_start_ppc64b`, `fz_enter`, `fz_write_register`, `fz_write_memory` and `fz_leave` give them
-- (crates/c_starts/src/lib.rt, crates/c_frames/src/lib.rt). What a contract does not speak of is lent for reading only, and stays. Assumes nothing.
use Rattle.std.specs.Prelude.{ℕ, List, [], ◌∷◌, length}
use Rattle.base_conventions.specs.declared.Convention.{Convention}
use Rattle.frame_machine.specs.Answers.{FrameAnswer}
use Rattle.frame_machine.specs.Machine.{start_memory, enter_outcome, enter_memory, write_register_outcome, write_memory_outcome, write_memory_memory, leave_outcome}
use Rattle.frame_word_layout.specs.Words.{frame_in, state_in}
use Rattle.frame_word_layout.specs.Calls.{start_words, enter_words, write_register_words, leave_words}

-- any enter, write or leave, with what it is handed besides the machine and the memory: the words of a request; a bank, a number and a value; an address and bytes
pub data Call : Type 0 where
  enter : List ℕ → Call
  write_register : ℕ → ℕ → ℕ → Call
  write_memory : ℕ → List ℕ → Call
  leave : Call

-- what is lent to each call: the machine's words and its memory
pub record Lent : Type 0 where
  pub words : List ℕ
  pub memory : List ℕ

-- what a call answers; the number that C gets is 0 for an accepted one and else the refusal's (`frame_answer`, crates/c_frame_answers/specs/Frames.antt)
abbrev pub answer : Call → Lent → FrameAnswer
answer (enter q) m = (enter_outcome (state_in m.words) (length m.memory) (frame_in q 0)).answer
answer (write_register b n v) m = (write_register_outcome (state_in m.words) (length m.memory) b n v).answer
answer (write_memory a bs) m = (write_memory_outcome (state_in m.words) (length m.memory) a (length bs)).answer
answer leave m = (leave_outcome (state_in m.words) m.memory).answer

-- the words after it
abbrev pub words_after : Call → Lent → List ℕ
words_after (enter q) m = enter_words m.words (length m.memory) q
words_after (write_register b n v) m = write_register_words m.words (length m.memory) b n v
words_after (write_memory a bs) m = m.words
words_after leave m = leave_words m.words m.memory

-- the memory after it
abbrev pub memory_after : Call → Lent → List ℕ
memory_after (enter q) m = enter_memory (state_in m.words) m.memory (frame_in q 0)
memory_after (write_register b n v) m = m.memory
memory_after (write_memory a bs) m = write_memory_memory (state_in m.words) m.memory a bs
memory_after leave m = m.memory

abbrev pub after : Call → Lent → Lent
after c m = record { words = words_after c m; memory = memory_after c m }

-- what is lent after a list of calls
unfoldable pub run : List Call → Lent → Lent
run [] m = m
run (c ∷ cs) m = run cs (after c m)

-- what an accepted or refused start in a convention leaves, from a base b, the memory l and the words rs of the registers; it writes all the machine's words
abbrev pub fresh : Convention → ℕ → List ℕ → List ℕ → Lent
fresh c b l rs = record { words = start_words c rs b (length l); memory = start_memory c b l }
