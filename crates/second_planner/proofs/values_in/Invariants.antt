-- The sum so far and what is left make up the whole.
use Rattle.sig_signatures.specs.Types.{types_in}
use Rattle.second_planner.proofs.Turns.{Adding}
use Rattle.second_planner.proofs.values_in.Given as goal

abbrev pub invariant-loop-a : goal.invariant-loop-a
invariant-loop-a l = Adding l.fn.g.convention (types_in l.fn.g) l.values l.a-index
