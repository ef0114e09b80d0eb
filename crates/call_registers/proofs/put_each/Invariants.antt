-- Each turn puts a word; the law `bytes-more` is a turn.
use Prim.Native.Nat.{◌-◌}
use Rattle.call_registers.proofs.Putting.{BytesPut}
use Rattle.call_registers.proofs.put_each.Given as goal

abbrev pub invariant-loop-i : goal.invariant-loop-i
invariant-loop-i l = BytesPut l.initial.s l.v l.word l.count l.s l.i l.from
