-- The runs' counts say it.
use mathlib.Core.Path.{sym}
use native.Mathlib.Omega.{arith}
use Rattle.plan_stored_items.proofs.Laws.{length-result}
use Rattle.plan_stored_items.proofs.result_length.Goals as goal

pub returns : goal.returns
returns c = (rw (c.result_first-f.ensures.0, c.result_second-g.ensures.0) (sym (length-result c.args.x)), omega (arith, c.result_first-f.ensures.2, c.result_second-g.ensures.2))
