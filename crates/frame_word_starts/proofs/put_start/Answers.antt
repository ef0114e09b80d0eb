-- All the words of the state, and where the start is refused CR's word over them. Assumes nothing.
use Prim.Native.Nat.{ℕ}
use mathlib.Core.Path.{◌≡◌, refl, sym, ap, ◌∙◌}
use mathlib.Core.Bool.{true, false, true≢false}
use Rattle.std.specs.Prelude.{is_err}
use mathlib.Core.List.{List}
use lib.ListN.{get_or, set}
use Rattle.frame_machine.specs.Answers.{FrameAnswer}
use Rattle.std.specs.Prelude.{Ok, Err}
use Rattle.frame_machine.specs.Answers.{settle}
use Rattle.frame_word_starts.proofs.put_start.Goals as goal

settle-yes : (a : FrameAnswer) (ws vs : List ℕ) → is_err a ≡ false → ws ≡ settle a ws vs
settle-yes (Ok tt) ws vs e = refl
settle-yes (Err x) ws vs e = absurd (true≢false e)

settle-no : (a : FrameAnswer) (ws vs : List ℕ) → is_err a ≡ true → vs ≡ settle a ws vs
settle-no (Ok tt) ws vs e = absurd (true≢false (sym e))
settle-no (Err x) ws vs e = refl

pub returns-then-is_err-clause-words_after : goal.returns-then-is_err-clause-words_after
returns-then-is_err-clause-words_after c =
    ap (λ (ws : List ℕ). set ws 69 (get_or c.args.registers.now 65 0)) c.put_state.ensures
    ∙ settle-no c.args.o.answer _ _ (sym c.is_err.ensures.value ∙ c.if-is_err.true)

pub returns-else-is_err-clause-words_after : goal.returns-else-is_err-clause-words_after
returns-else-is_err-clause-words_after c =
    c.put_state.ensures ∙ settle-yes c.args.o.answer _ _ (sym c.is_err.ensures.value ∙ c.if-is_err.false)
