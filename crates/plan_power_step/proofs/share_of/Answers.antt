-- Each way of the code is one of the definition.
use mathlib.Core.Path.{◌∙◌}
use Rattle.plan_places.proofs.Shares.{share-words, share-memory, share-float}
use native.Mathlib.Omega.{arith}
use Rattle.plan_power_step.proofs.share_of.Goals as goal

pub returns-then-m-eq0 : goal.returns-then-m-eq0
returns-then-m-eq0 c = share-words _ _ _ _ _ c.if-m-eq0.true

pub returns-then-ellipsis : goal.returns-then-ellipsis
returns-then-ellipsis c = c.both_of.ensures ∙ rw c.if-ellipsis.true

pub returns-then-room-m : goal.returns-then-room-m
returns-then-room-m c = rw c.if-ellipsis.false (share-memory _ _ _ _ (omega arith) (omega arith))

pub returns : goal.returns
returns c = rw c.if-ellipsis.false (share-float _ _ _ _ (omega arith) (omega arith))
