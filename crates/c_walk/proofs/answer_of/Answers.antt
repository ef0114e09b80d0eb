-- 23, or the answer of a call. Assumes nothing.
use mathlib.Core.Path.{sym, ap, ◌∙◌}
use Rattle.c_walk.specs.Walk.{walk_answer}
use Rattle.c_walk.proofs.answer_of.Goals as goal

pub returns-in-Lost : goal.returns-in-Lost
unfolding walk_answer
returns-in-Lost c = rw c.in-Lost.is

pub returns-in-Called : goal.returns-in-Called
unfolding walk_answer
returns-in-Called c = c.answer_of.ensures ∙ ap walk_answer (sym c.in-Called.is)
