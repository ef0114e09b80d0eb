-- The FPRs that were asked for so far tell where the next float goes.
use Rattle.sig_signatures.specs.Types.{types_in}
use Rattle.second_structure.proofs.Turns.{Covering}
use Rattle.second_structure.proofs.lay_registers.Given as goal

abbrev pub invariant-loop-i : goal.invariant-loop-i
invariant-loop-i l = Covering l.fn.ellipsis l.fn.paired l.fn.word (types_in l.fn.g) l.fn.s.fields l.laid l.earlier l.i
