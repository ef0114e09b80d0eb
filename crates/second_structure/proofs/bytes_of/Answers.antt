-- At most 8 times 2 ^ 20.
use native.Mathlib.Nat.{mul-le-mul}
use native.Mathlib.Omega.{arith}
use Rattle.second_structure.proofs.bytes_of.Goals as goal

pub overflow_mul-result : goal.overflow_mul-result
overflow_mul-result c = record { fits = let b = mul-le-mul c.requires.0 c.requires.1 in omega (arith, b) }
