-- The floor under lists of the exported calls, from that under lists of the machine's own calls: a list over words keeps it where its reading does. Assumes nothing.
use Prim.Native.Nat.{ℕ}
use mathlib.Core.Path.{◌≡◌, sym, ◌∙◌, subst}
use mathlib.Core.List.{List, [], ◌∷◌}
use lib.ListN.{length}
use Rattle.frame_rules.specs.declared.FrameRules.{FrameRules}
use Rattle.frame_rules.specs.Rules.{rules}
use Rattle.frame_word_layout.specs.Words.{machine_words, registers_in}
use Rattle.frame_word_layout.proofs.Theorems.{start-state}
use Rattle.frame_history.specs.Calls as states
use Rattle.frame_history.specs.Floor as states-floor
use Rattle.frame_history.proofs.Floor.{floor-kept}
use Rattle.frame_word_history.specs.Calls.{Call, Lent, after, fresh}
use Rattle.frame_word_history.specs.Demand3.{machine_in, call_in, calls_in}
use Rattle.frame_word_history.specs.Floor.{FloorHolds, KeepsFloor}
use Rattle.frame_word_history.proofs.Theorem.{reading-after, words-length, start-length, registers-fit}

floor-read : (k : FrameRules) (cs : List Call) (m : Lent) → length m.words ≡ machine_words → states-floor.FloorHolds k (calls_in cs) (machine_in m) → FloorHolds k cs m
floor-read k [] m h p = p
floor-read k (c ∷ cs) m h p =
    let e = reading-after c m h in (
      p.0,
      subst (λ (n : states.Machine). states-floor.Untouched k (call_in c) (machine_in m) n) (sym e) p.1,
      floor-read k cs (after c m) (words-length c m ∙ h) (subst (λ (n : states.Machine). states-floor.FloorHolds k (calls_in cs) n) (sym e) p.2),
    )

pub words-floor : KeepsFloor
words-floor c b l rs h e cs w =
    floor-read (rules c) cs (fresh c b l rs) (start-length c rs b (length l) h.count)
    (rw (start-state c rs b (length l) h.count e) (floor-kept c b l (registers_in rs 0) (registers-fit rs h) e (calls_in cs) w))
