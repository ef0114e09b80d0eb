-- The definition's own arithmetic in 64 bits; the sum fits 32. Assumes nothing.
-- The definition's own arithmetic in 64 bits; the sum fits 32. Assumes nothing.
use Rattle.frame_rules.proofs.Writing.{field_fit}
use Rattle.frame_writing.proofs.Fields.{field-parts}
use Rattle.frame_rules.specs.Frames.{with_condition_field}
use native.Mathlib.Omega.{arith}
use Rattle.frame_writing.proofs.with_condition_field.Goals as goal

pub overflow_mul-result-3 : goal.overflow_mul-result-3
overflow_mul-result-3 c =
    omega (arith, field-parts c.args.c c.unit-u.result c.args.v (omega arith) (omega arith))

pub overflow_mul-result-4 : goal.overflow_mul-result-4
overflow_mul-result-4 c =
    omega (arith, field-parts c.args.c c.unit-u.result c.args.v (omega arith) (omega arith))

pub overflow_add-result : goal.overflow_add-result
overflow_add-result c =
    omega (arith, field-parts c.args.c c.unit-u.result c.args.v (omega arith) (omega arith))

pub overflow_add-result-2 : goal.overflow_add-result-2
overflow_add-result-2 c =
    omega (arith, field-parts c.args.c c.unit-u.result c.args.v (omega arith) (omega arith))

pub overflow_cast-result : goal.overflow_cast-result
unfolding with_condition_field
overflow_cast-result c =
    let h = field_fit c.args.n c.args.c c.args.v (omega arith) (omega arith) (omega arith) in rw c.unit-u.ensures.0 (omega (arith, h))

pub returns : goal.returns
unfolding with_condition_field
returns c = rw c.unit-u.ensures.0
