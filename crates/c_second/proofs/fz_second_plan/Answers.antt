-- Each word is the plan's.
use Rattle.c_second.proofs.Laws.{flag-is}
use Rattle.c_second.proofs.fz_second_plan.Goals as goal

pub returns : goal.returns
returns c = rw (c.outcome_words.ensures, c.from-ellipsis.ensures, flag-is, c.from-convention.ensures, c.returned_words-result.ensures, c.second_plan_of-p.ensures)
