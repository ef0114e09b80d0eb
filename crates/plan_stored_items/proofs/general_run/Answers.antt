-- Each part is the definition's.
use mathlib.Core.Path.{◌∙◌}
use Rattle.plan_stored_items.proofs.Laws.{general-run}
use Rattle.plan_stored_items.specs.Places.{general_run}
use borrow.Author.Rules.{rules}
use Rattle.plan_stored_items.proofs.general_run.Goals as goal

pub returns : goal.returns
unfolding general_run
returns c = general-run c.args.rules c.args.s c.requires.0 c.requires.1 _ (c.register_run.ensures ∙ rw (c.bytes_in_area-by.ensures, c.word_of-word.ensures, c.bytes_in_area-offset.ensures))
