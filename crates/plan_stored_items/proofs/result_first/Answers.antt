-- By cases on the result.
use mathlib.Core.Path.{◌∙◌}
use Rattle.plan_stored_items.proofs.Laws.{result-first-run}
use Rattle.plan_stored_items.proofs.result_first.Goals as goal

pub returns-in-Nothing : goal.returns-in-Nothing
returns-in-Nothing c = result-first-run c.args.x c.requires _ (c.no_places.ensures ∙ rw c.in-Nothing.is)

pub returns-in-Registers : goal.returns-in-Registers
returns-in-Registers c = result-first-run c.args.x c.requires _ (c.register_run.ensures ∙ rw c.in-Registers.is)

pub returns-in-Hidden : goal.returns-in-Hidden
returns-in-Hidden c = result-first-run c.args.x c.requires _ (rw (c.in-Hidden.is, c.no_places-in-Hidden.ensures))
