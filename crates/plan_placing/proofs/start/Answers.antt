-- The hidden address comes first, or nothing does.
use Rattle.plan_places.specs.Step.{start_of}
use Rattle.plan_placing.proofs.start.Goals as goal

pub returns-then-hidden : goal.returns-then-hidden
returns-then-hidden c = rw c.if-hidden.true c.past_address.ensures

pub returns : goal.returns
unfolding start_of
returns c = rw c.if-hidden.false c.cursor_of.ensures
