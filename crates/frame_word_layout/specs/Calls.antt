-- The words after each call of the machine: what a call over words answers, and leaves in the memory, is what the machine's own definitions give of the state that the
-- words are read as. Document 01, "Frames": "An accepted enter changes only the stack pointer, the slots named above, its record and the depth; an accepted leave only
-- the stack pointer, what it restores, the record and the depth"; "Every refusal leaves all buffers and the state untouched" ("When the bridge says no").
-- Records that are not entered are neither looked at nor changed, whatever their words are. Assumes nothing.
use Rattle.std.specs.Prelude.{ℕ, ◌*◌, List, ◌∷◌, ◌++◌, replicate}
use Rattle.base_conventions.specs.declared.Convention.{Convention}
use Rattle.base_conventions.specs.Numbers.{code_of}
use Rattle.frame_machine.specs.Answers.{settle}
use Rattle.frame_machine.specs.declared.State.{State}
use Rattle.frame_machine.specs.Machine.{max_entered, frame_at, start_outcome, enter_outcome, write_register_outcome, leave_outcome}
use Rattle.frame_word_layout.specs.Words.{record_words, registers_in, frame_in, state_in, state_words, with_depth, with_registers, with_frame}

-- ws with the depth, the registers and the record i of the state s
unfoldable pub changed : List ℕ → State → ℕ → List ℕ
changed ws s i = with_frame (with_registers (with_depth ws s.depth) s.registers) i (frame_at s.frames i)

-- "a refused start hands the registers back as they came, all else 0": all 64 bits of each word rs, CR's too; the convention stays
unfoldable pub refused_words : Convention → List ℕ → List ℕ
refused_words c rs = code_of c ∷ 0 ∷ 0 ∷ 0 ∷ (rs ++ replicate (max_entered * record_words) 0)

-- start writes all the words, also where it is refused; rs are the registers handed in, n the length of the memory
unfoldable pub start_words : Convention → List ℕ → ℕ → ℕ → List ℕ
start_words c rs b n =
    let o = start_outcome c b n (registers_in rs 0) in
    settle o.answer (state_words o.state) (refused_words c rs)

-- the record of an enter is that at the depth before it; qs are the words of the request
unfoldable pub enter_words : List ℕ → ℕ → List ℕ → List ℕ
enter_words ws n qs =
    let o = enter_outcome (state_in ws) n (frame_in qs 0) in
    settle o.answer (changed ws o.state (state_in ws).depth) ws

-- of a state only a register is written
unfoldable pub write_register_words : List ℕ → ℕ → ℕ → ℕ → ℕ → List ℕ
write_register_words ws n b number v =
    let o = write_register_outcome (state_in ws) n b number v in
    settle o.answer (with_registers ws o.state.registers) ws

-- the record of a leave is that at the depth after it; l is the memory
unfoldable pub leave_words : List ℕ → List ℕ → List ℕ
leave_words ws l =
    let o = leave_outcome (state_in ws) l in
    settle o.answer (changed ws o.state o.state.depth) ws
