-- Each part is the definition's.
use Rattle.plan_stored_items.proofs.Laws.{memory-run}
use Rattle.plan_stored_items.specs.Places.{memory_run}
use borrow.Author.Rules.{rules}
use Rattle.plan_stored_items.proofs.memory_run.Goals as goal

pub words_in-count-requires : goal.words_in-count-requires
words_in-count-requires c = (c.requires.0, c.requires.1.short)

pub returns : goal.returns
unfolding memory_run
returns c = memory-run c.args.rules c.args.s c.requires.0 c.requires.1 _ (rw (c.words_in-count.ensures.0, c.listed_from-from.ensures.0, c.word_of-by.ensures))
