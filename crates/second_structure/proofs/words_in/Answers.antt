-- The definition's number.
use native.Mathlib.Omega.{arith}
use Rattle.second_structure.proofs.Laws.{words-few}
use Rattle.second_structure.specs.Structure.{words_in}
use Rattle.second_structure.proofs.words_in.Goals as goal

pub returns : goal.returns
unfolding words_in
returns c = (rw c.round_up.ensures, rw c.round_up.ensures (words-few _ _ (omega arith) (omega arith) (omega arith)))
