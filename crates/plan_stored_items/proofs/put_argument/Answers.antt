-- Each run in its turn.
use Rattle.plan_text.proofs.Writing.{wrote_then}
use Rattle.plan_stored_items.proofs.Laws.{wrote-argument}
use native.Mathlib.Omega.{arith}
use borrow.Author.Rules.{rules}
use Rattle.plan_stored_items.proofs.put_argument.Goals as goal

pub put_places-i-requires : goal.put_places-i-requires
put_places-i-requires c = (omega (arith, c.put_header-h.ensures.1, c.requires.0), c.floating_run-f.ensures.1)

pub put_places-j-requires : goal.put_places-j-requires
put_places-j-requires c = (omega (arith, c.put_places-i.ensures.1, c.put_header-h.ensures.1, c.requires.0, c.floating_run-f.ensures.2), c.general_run-g.ensures.1)

pub put_places-l-requires : goal.put_places-l-requires
put_places-l-requires c = (omega (arith, c.put_places-j.ensures.1, c.put_places-i.ensures.1, c.put_header-h.ensures.1, c.requires.0, c.floating_run-f.ensures.2, c.general_run-g.ensures.2), c.memory_run-m.ensures.1)

pub put_places-requires : goal.put_places-requires
put_places-requires c = (omega (arith, c.put_places-l.ensures.1, c.put_places-j.ensures.1, c.put_places-i.ensures.1, c.put_header-h.ensures.1, c.requires.0, c.floating_run-f.ensures.2, c.general_run-g.ensures.2, c.memory_run-m.ensures.2), c.copy_run-k.ensures.1)

pub returns : goal.returns
returns c = (
  wrote-argument c.args.rules c.args.s _ _ _ _ c.floating_run-f.ensures.0 c.general_run-g.ensures.0 c.memory_run-m.ensures.0 c.copy_run-k.ensures.0 (wrote_then c.put_header-h.ensures.0 (wrote_then c.put_places-i.ensures.0 (wrote_then c.put_places-j.ensures.0 (wrote_then c.put_places-l.ensures.0 c.put_places.ensures.0)))),
  omega (arith, c.floating_run-f.ensures.2, c.general_run-g.ensures.2, c.memory_run-m.ensures.2, c.copy_run-k.ensures.2, c.put_header-h.ensures.1, c.put_places-i.ensures.1, c.put_places-j.ensures.1, c.put_places-l.ensures.1, c.put_places.ensures.1),
)
