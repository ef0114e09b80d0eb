-- By the part that is viewed.
use Rattle.c_homes.proofs.Laws.{part-answer}
use Rattle.c_homes.proofs.fz_view.Goals as goal

pub returns : goal.returns
returns c = part-answer _ _ _ c.view_part-p.ensures c.answer_of.ensures
