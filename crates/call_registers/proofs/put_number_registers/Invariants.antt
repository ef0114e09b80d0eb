-- Each turn puts a word; the law `number_more` is a turn.
use Prim.Native.Nat.{◌-◌}
use Rattle.call_registers.proofs.Putting.{NumberPut}
use Rattle.call_registers.proofs.put_number_registers.Given as goal

abbrev pub invariant-loop-i : goal.invariant-loop-i
invariant-loop-i l = NumberPut l.initial.s l.word l.count l.room l.x l.s l.i l.rest
