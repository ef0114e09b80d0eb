-- Each run in its turn.
use Rattle.plan_text.proofs.Writing.{wrote_then}
use Rattle.plan_stored_items.proofs.Laws.{wrote-result}
use native.Mathlib.Omega.{arith}
use Rattle.plan_stored_items.proofs.put_result.Goals as goal

pub returns : goal.returns
returns c = (
  wrote-result c.args.x _ _ c.result_first-f.ensures.0 c.result_second-g.ensures.0 (wrote_then c.put_header-h.ensures.0 (wrote_then c.put_places-i.ensures.0 c.put_places.ensures.0)),
  omega (arith, c.result_first-f.ensures.2, c.result_second-g.ensures.2, c.put_header-h.ensures.1, c.put_places-i.ensures.1, c.put_places.ensures.1),
)
