-- Lists of the exported calls of the frame machine: whether all are accepted, and what is reached by them from an accepted start. Assumes nothing.
use Rattle.std.specs.Prelude.{ℕ, ◌≡◌, List, [], ◌∷◌, length, Ok}
use Rattle.base_conventions.specs.declared.Convention.{Convention}
use Rattle.frame_machine.specs.Machine.{start_outcome}
use Rattle.frame_word_layout.specs.Words.{registers_words, registers_in}
use Rattle.frame_history.specs.Preserved.{OpenEnter, CallsFit}
use Rattle.frame_word_history.specs.Calls.{Call, Lent, answer, after, run, fresh}
use Rattle.frame_word_history.specs.Demand3.{calls_in, opened_by, WordsFit}

-- every call of a list is accepted
unfoldable pub AllAccepted : List Call → Lent → Type 0
AllAccepted [] m = Unit {0}
AllAccepted (c ∷ cs) m = (answer c m ≡ Ok tt) × AllAccepted cs (after c m)

-- m, with the enters os open, was reached by a list of calls from an accepted start: what `Demand3` asks for, and no more
pub record Reached (c : Convention) (os : List OpenEnter) (m : Lent) : Type 0 where
  pub base : ℕ
  pub memory : List ℕ
  pub registers : List ℕ
  pub calls : List Call
  pub registers-fit : WordsFit registers_words registers
  pub started : (start_outcome c base (length memory) (registers_in registers 0)).answer ≡ Ok tt
  pub calls-fit : CallsFit (calls_in calls)
  pub lent : run calls (fresh c base memory registers) ≡ m
  pub opened : opened_by calls (fresh c base memory registers) [] ≡ os
