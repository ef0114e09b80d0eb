-- By the law for each way.
use Rattle.second_parameters.proofs.Laws.{run_none, run-some}
use Rattle.second_parameters.proofs.run_of.Goals as goal

pub returns-then-count-eq0 : goal.returns-then-count-eq0
returns-then-count-eq0 c = run_none _ _ c.if-count-eq0.true

pub returns-else-count-eq0 : goal.returns-else-count-eq0
returns-else-count-eq0 c = run-some _ _ c.if-count-eq0.false
