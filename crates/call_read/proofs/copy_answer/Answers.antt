-- Done inside, refused outside.
use Rattle.call_read.proofs.copy_answer.Goals as goal

pub returns-else-inside : goal.returns-else-inside
returns-else-inside c = rw c.if-inside.false
