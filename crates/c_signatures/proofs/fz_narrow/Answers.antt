-- By what narrowing finds.
use mathlib.Core.Path.{sym, ap, ◌∙◌}
use Rattle.c_signatures.specs.Surface.{narrowing_answer}
use Rattle.c_signatures.proofs.fz_narrow.Goals as goal

pub returns-in-Some : goal.returns-in-Some
unfolding narrowing_answer
returns-in-Some c = rw c.from.ensures (ap narrowing_answer (sym c.in-Some.is ∙ c.narrow.ensures))

pub returns-in-None : goal.returns-in-None
unfolding narrowing_answer
returns-in-None c = ap narrowing_answer (sym c.in-None.is ∙ c.narrow.ensures)
