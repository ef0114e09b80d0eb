-- Each turn takes what of a register's word is asked for; the law `taking-more` is a turn.
use Prim.Native.Nat.{◌-◌}
use Rattle.call_registers.proofs.Taking.{Taking}
use Rattle.call_registers.proofs.take_each.Given as goal

abbrev pub invariant-loop-done : goal.invariant-loop-done
invariant-loop-done l = Taking l.initial.out l.image l.word l.first l.count l.lo l.n l.out l.done l.register l.passed

abbrev pub decreases-loop-done : goal.decreases-loop-done
decreases-loop-done l = l.n - l.done
