-- By what narrowing finds.
use mathlib.Core.Path.{ap, sym, ◌∙◌}
use Rattle.call_slots.specs.Refusals.{narrowed_answer}
use Rattle.call_slots.proofs.narrowed_answer.Goals as goal

pub returns-in-Some : goal.returns-in-Some
returns-in-Some c = sym (ap narrowed_answer (sym c.narrow.ensures ∙ c.in-Some.is))

pub returns-in-None : goal.returns-in-None
returns-in-None c = sym (ap narrowed_answer (sym c.narrow.ensures ∙ c.in-None.is))
