-- The loop compares one byte a turn; the bytes that are left tell what all of them tell (`Comparing`).
use Rattle.call_read.proofs.Agree.{Comparing}
use Rattle.call_read.proofs.same_bytes.Given as goal

abbrev pub invariant-loop-i : goal.invariant-loop-i
invariant-loop-i l = Comparing l.a l.b l.n l.i
