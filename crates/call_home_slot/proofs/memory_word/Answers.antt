-- By the float, and what narrowing finds.
use mathlib.Core.Path.{sym, ap, ◌∙◌}
use Rattle.call_home_slot.specs.Helpers.{narrowed_word}
use Rattle.call_home_slot.proofs.memory_word.Goals as goal

pub returns-in-Some : goal.returns-in-Some
returns-in-Some c = c.from.ensures ∙ ap narrowed_word (sym c.in-Some.is ∙ c.narrow.ensures) ∙ rw c.in-Single.is

pub returns-in-None : goal.returns-in-None
returns-in-None c = ap narrowed_word (sym c.in-None.is ∙ c.narrow.ensures) ∙ rw c.in-Single.is
