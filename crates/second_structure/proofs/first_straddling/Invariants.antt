-- The loop looks at one parameter a turn (`Looking`).
use Rattle.sig_signatures.specs.Types.{types_in}
use Rattle.second_structure.proofs.Turns.{Looking}
use Rattle.second_structure.proofs.first_straddling.Given as goal

abbrev pub invariant-loop-i : goal.invariant-loop-i
invariant-loop-i l = Looking l.fn.paired (types_in l.fn.g) l.earlier l.i
