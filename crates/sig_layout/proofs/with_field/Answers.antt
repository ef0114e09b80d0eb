-- Each part of the answer is what a callee gives.
use native.Mathlib.Omega.{arith}
use Rattle.sig_types.specs.Structs.{with_field}
use Rattle.base_words.proofs.Basics.{round-up-most}
use Rattle.sig_layout.proofs.with_field.Goals as goal

pub overflow_add-result : goal.overflow_add-result
overflow_add-result c = omega (arith, round-up-most c.args.l.end c.align_of-a.result (omega arith))

pub returns : goal.returns
unfolding with_field
returns c =
    rw (
      c.size_of-size.ensures,
      c.round_up-start.ensures,
      c.max.ensures,
      c.equivalent_after.ensures,
      c.align_of-a.ensures,
    )
