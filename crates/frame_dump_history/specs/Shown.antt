-- What the walk of a machine's memory shows. Document 02, No. 13: "For a machine under demand 3's premises, without leaves on it, the walk of its memory from its current
-- pointer, into a slice long enough, shows exactly its entered frames and the start." `WalkShows` is the claim with all that it asks for, of which `walk-shows` in
-- proofs/Theorem.antt is a value. The calls are the exported ones, on words and memory (crates/frame_word_history/specs/Calls.antt), and which enters are open is told from them
-- and their answers, as in demand 3. Assumes nothing.
use Rattle.std.specs.Prelude.{ℕ, suc, ◌≤◌, ◌≡◌, false, List, [], ◌∷◌, length, Ok}
use Rattle.base_conventions.specs.declared.Convention.{Convention}
use Rattle.frame_rules.specs.declared.FrameRules.{FrameRules}
use Rattle.frame_rules.specs.Rules.{rules}
use Rattle.frame_machine.specs.Machine.{stack_pointer, start_outcome}
use Rattle.frame_word_layout.specs.Words.{registers_words, registers_in, state_in}
use Rattle.frame_history.specs.Calls as states
use Rattle.frame_history.specs.Preserved.{OpenEnter, caller_of, CallsFit}
use Rattle.frame_word_history.specs.Calls.{Call, Lent, run, fresh}
use Rattle.frame_word_history.specs.Demand3.{calls_in, opened_by, WordsFit}
use Rattle.frame_dump.specs.Walk.{Walked, frames, walk_into}

-- the address of the frame that an enter opened: the stack pointer just after it
abbrev pub frame_address : FrameRules → OpenEnter → ℕ
frame_address k o = stack_pointer k (states.after (states.enter o.request) o.before).state

-- "its entered frames and the start", whose stack pointer is p: the latest first
abbrev pub shown : FrameRules → List OpenEnter → ℕ → List ℕ
shown k [] p = p ∷ []
shown k (o ∷ os) p = frame_address k o ∷ shown k os p

-- the stack pointer of a machine
abbrev pub pointer_in : FrameRules → Lent → ℕ
pointer_in k m = stack_pointer k (state_in m.words)

-- NO. 13. In each convention, from each accepted start, after every list of exported calls; the premises are those of `Demand3`. No enter is accepted above a leaf, so only
-- the latest open enter can be one of a leaf. n is the length of the slice; what `fz_walk_dump_ppc64`, `_z` and `_aix` answer and write is told by `walk_into`.
abbrev pub WalkShows : Type 0
WalkShows = (c : Convention) (b : ℕ) (l rs : List ℕ) → WordsFit registers_words rs → (start_outcome c b (length l) (registers_in rs 0)).answer ≡ Ok tt → (cs : List Call) → CallsFit (calls_in cs)
    → (caller_of (rules c) (opened_by cs (fresh c b l rs) [])).leaf ≡ false → (n : ℕ) → suc (length (opened_by cs (fresh c b l rs) [])) ≤ n
    → walk_into (rules c) (state_in (run cs (fresh c b l rs)).words).base (run cs (fresh c b l rs)).memory (pointer_in (rules c) (run cs (fresh c b l rs))) n
    ≡ frames (shown (rules c) (opened_by cs (fresh c b l rs) []) (pointer_in (rules c) (fresh c b l rs)))
