-- Each argument is read and placed, and its entry kept (`Keeping`); what is kept is then written where there is room for all.
use Prim.Native.Nat.{◌-◌}
use Rattle.plan_words.proofs.Turns.{Keeping}
use Rattle.plan_words.proofs.plan_arguments.Given as goal

abbrev pub invariant-loop-next : goal.invariant-loop-next
invariant-loop-next l = Keeping l.convention l.ellipsis l.sig l.at l.end l.returned l.initial.kept l.c l.kept l.values l.unclear l.count l.next l.items

abbrev pub decreases-loop-next : goal.decreases-loop-next
decreases-loop-next l = l.end - l.next
