-- By cases on the result.
use Rattle.second_parameters.proofs.Laws.{small-value}
use mathlib.Core.Path.{ap, ◌∙◌}
use Rattle.second_parameters.specs.declared.Returned.{Returned}
use Rattle.second_structure.proofs.power_returned.Goals as goal

pub words_in-n-requires : goal.words_in-n-requires
words_in-n-requires c = (c.requires.0, c.requires.1, rw c.size_of.ensures (small-value _ _ _ c.in-Some.is c.requires.2))

pub returns-in-Integer : goal.returns-in-Integer
returns-in-Integer c = rw (c.in-Some.is, c.in-Integer.is) (ap Returned.General (c.run_of.ensures ∙ rw (c.words_in-n.ensures.0, c.size_of.ensures, c.in-Integer.is)))
