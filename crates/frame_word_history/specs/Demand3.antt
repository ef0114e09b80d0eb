-- Demand 3 of the exported calls: "a single claim about the whole list of calls". Document 01, "Frames"; `Demand3` is the claim with all that it asks for, of which
-- `words-hold` in proofs/Theorem.antt is a value. What a leave keeps, and which enters are open, is said in crates/frame_history/specs/Preserved.antt of the state and the memory;
-- here the state is what the lent words are read as. Assumes nothing.
use Rattle.std.specs.Prelude.{ℕ, ◌^◌, ◌<◌, ◌≡◌, List, [], ◌∷◌, get_or, length, Ok}
use Rattle.base_conventions.specs.declared.Convention.{Convention}
use Rattle.frame_rules.specs.declared.FrameRules.{FrameRules}
use Rattle.frame_rules.specs.Rules.{rules}
use Rattle.frame_machine.specs.Machine.{start_outcome}
use Rattle.frame_word_layout.specs.Words.{registers_words, registers_in, frame_in, state_in}
use Rattle.frame_history.specs.Calls as states
use Rattle.frame_history.specs.Preserved.{OpenEnter, open_after, CallHolds, CallsFit}
use Rattle.frame_word_history.specs.Calls.{Call, enter, write_register, write_memory, leave, Lent, answer, after, fresh}

-- ---- what the words are read as

-- a state and its memory, a call of theirs, and a list of calls
abbrev pub machine_in : Lent → states.Machine
machine_in m = record { state = state_in m.words; memory = m.memory }

abbrev pub call_in : Call → states.Call
call_in (enter q) = states.enter (frame_in q 0)
call_in (write_register b n v) = states.write_register b n v
call_in (write_memory a bs) = states.write_memory a bs
call_in leave = states.leave

abbrev pub calls_in : List Call → List states.Call
calls_in [] = []
calls_in (c ∷ cs) = call_in c ∷ calls_in cs

-- ---- a list of calls

-- of a whole list of calls from what m lends, with the enters os open: a leave is refused exactly when no enter is open, and keeps what it must where it is accepted
abbrev pub Holds : FrameRules → List Call → List OpenEnter → Lent → Type 0
Holds k [] os m = Unit {0}
Holds k (c ∷ cs) os m = CallHolds k (call_in c) (answer c m) os (machine_in (after c m)) × Holds k cs (open_after (call_in c) (answer c m) (machine_in m) os) (after c m)

-- the enters that are open after a list of calls, of which os were open before it
unfoldable pub opened_by : List Call → Lent → List OpenEnter → List OpenEnter
opened_by [] m os = os
opened_by (c ∷ cs) m os = opened_by cs (after c m) (open_after (call_in c) (answer c m) (machine_in m) os)

-- ---- numbers are values of their types

-- what an array of n 64-bit words is
pub record WordsFit (n : ℕ) (ws : List ℕ) : Type 0 where
  pub count : length ws ≡ n
  pub fit : (i : ℕ) → get_or ws i 0 < 2 ^ 64

-- ---- the claim

-- DEMAND 3. "The start may be handed any registers, base and memory. No enter is open at the start." In each convention, from each accepted start, every list of exported
-- calls holds. `WordsFit` and `CallsFit` restrict nothing: `fz_registers` is 66 words of 64 bits (32 general and 32 floating registers, LR, and CR, of which the low 32 bits
-- count), and the value of `fz_write_register` is one. Nothing is asked of the memory, its base, the requests and the bytes written; a refused start starts no list.
abbrev pub Demand3 : Type 0
Demand3 = (c : Convention) (b : ℕ) (l rs : List ℕ) → WordsFit registers_words rs → (start_outcome c b (length l) (registers_in rs 0)).answer ≡ Ok tt → (cs : List Call) → CallsFit (calls_in cs)
    → Holds (rules c) cs [] (fresh c b l rs)
