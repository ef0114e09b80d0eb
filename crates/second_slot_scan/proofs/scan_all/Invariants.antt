-- 001's SCAN, argument by argument.
use Rattle.second_slot_scan.specs.Slots.{initial}
use Rattle.sig_signatures.specs.Types.{types_in}
use Rattle.second_slot_scan.proofs.Turns.{Scanning}
use Rattle.second_slot_scan.proofs.scan_all.Given as goal

abbrev pub invariant-loop-i : goal.invariant-loop-i
invariant-loop-i l = Scanning l.fn.g.convention (initial l.fn.hidden) (types_in l.fn.g) l.parameters l.end l.i
