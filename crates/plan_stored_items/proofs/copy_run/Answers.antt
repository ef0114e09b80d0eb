-- Each part is the definition's.
use Rattle.base_words.proofs.Tests.{flag-pick}
use Rattle.plan_stored_items.proofs.Laws.{copy_run_lem}
use Rattle.plan_stored_items.specs.Places.{copy_run}
use Rattle.plan_stored_items.proofs.copy_run.Goals as goal

pub returns : goal.returns
unfolding copy_run
returns c = copy_run_lem c.args.s c.requires _ (rw (c.from-count.ensures, flag-pick c.args.s.indirect))
