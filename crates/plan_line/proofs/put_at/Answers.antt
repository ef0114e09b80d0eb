-- The mark, then the number.
use Rattle.plan_line.proofs.put_at.Goals as goal

pub returns : goal.returns
returns c = c.put_labelled.ensures
