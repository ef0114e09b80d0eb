-- Each part is the definition's.
use mathlib.Core.Path.{◌∙◌}
use Rattle.plan_stored_items.proofs.Laws.{floating-run}
use Rattle.plan_stored_items.specs.Places.{floating_run}
use borrow.Author.Rules.{rules}
use Rattle.plan_stored_items.proofs.floating_run.Goals as goal

pub returns : goal.returns
unfolding floating_run
returns c = floating-run c.args.rules c.args.s c.requires _ (c.register_run.ensures ∙ rw (c.bytes_in_area-by.ensures, c.bytes_in_area-offset.ensures))
