-- The words of no result.
use Rattle.plan_words.proofs.no_plan.Goals as goal

pub returns : goal.returns
returns c = rw c.no_result.ensures
