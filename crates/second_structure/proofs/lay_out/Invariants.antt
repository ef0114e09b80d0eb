-- Each field starts where the one before it ends.
use Rattle.sig_signatures.specs.Types.{types_in}
use Rattle.second_structure.proofs.Turns.{Laying}
use Rattle.second_structure.proofs.lay_out.Given as goal

abbrev pub invariant-loop-i : goal.invariant-loop-i
invariant-loop-i l = Laying l.fn.g.convention l.fn.word l.fn.at (types_in l.fn.g) l.fields l.words l.i
