-- Done where they agree, refused where they differ.
use Rattle.call_read.proofs.agree_answer.Goals as goal

pub returns-else-same : goal.returns-else-same
returns-else-same c = rw c.if-same.false
