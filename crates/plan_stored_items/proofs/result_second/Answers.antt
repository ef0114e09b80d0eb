-- By cases on the result.
use mathlib.Core.Path.{◌∙◌}
use mathlib.Core.Logic.{inl, inr}
use Rattle.plan_stored_items.proofs.Laws.{result-second-run}
use Rattle.plan_stored_items.proofs.result_second.Goals as goal

pub returns-in-Nothing : goal.returns-in-Nothing
returns-in-Nothing c = result-second-run c.args.x c.requires _ (elim c.in-Nothing.is [ inl e ↦ c.no_places.ensures ∙ rw e | inr e ↦ c.no_places.ensures ∙ rw e.1 ])

pub returns-in-Registers : goal.returns-in-Registers
returns-in-Registers c = result-second-run c.args.x c.requires _ (c.register_run.ensures ∙ rw c.in-Registers.is)
