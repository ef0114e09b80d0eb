-- `candidate` meets its contract: the sign takes no part, and stands above 31 bits. Assumes nothing.
use native.Mathlib.Omega.{arith}
use Rattle.base_ieee.proofs.Magnitudes.{candidate-magnitude-below, candidate-sign}
use Rattle.base_ieee.proofs.candidate.Goals as goal

pub overflow_add-result : goal.overflow_add-result
overflow_add-result c = omega (arith, candidate-magnitude-below c.args.d)

pub overflow_cast-result : goal.overflow_cast-result
overflow_cast-result c = omega (arith, candidate-magnitude-below c.args.d)

pub returns : goal.returns
returns c = omega (arith, candidate-sign c.args.d (omega arith))
