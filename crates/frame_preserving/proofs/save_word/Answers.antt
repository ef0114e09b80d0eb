-- One word, or none. Assumes nothing.
use Rattle.frame_saves.specs.Saves.{save_run, store}
use Rattle.frame_preserving.proofs.save_word.Goals as goal

pub returns-then-on : goal.returns-then-on
unfolding save_run store
returns-then-on c =
    rw c.if-on.true c.store.ensures

pub returns-else-on : goal.returns-else-on
unfolding save_run
returns-else-on c = rw c.if-on.false
