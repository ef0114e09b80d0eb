-- The bytes so far are written.
use Rattle.plan_text.specs.Writing.{Wrote}
use lib.ListN.{take}
use Rattle.plan_text.proofs.put_bytes.Given as goal

abbrev pub invariant-loop-b : goal.invariant-loop-b
invariant-loop-b l = Wrote l.initial.text l.text l.at l.next (take l.b-index l.bs)
