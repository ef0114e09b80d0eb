-- One record more, which is in range. Assumes nothing.
use Rattle.std.proofs.Common.{arith}
use Rattle.frame_rules.proofs.Places.{size_small}
use Rattle.frame_machine.specs.Machine.{frame_at}
use Rattle.frame_machine.proofs.Coding.{frame-request, sizes_begin, sizes-more}
use Rattle.frame_state_checks.proofs.sizes_of.Goals as goal

pub loop-d-init : goal.loop-d-init
loop-d-init c = (sizes_begin c.args.k c.args.fs, omega arith)

pub frame_size-sum-requires-clause-f_value : goal.frame_size-sum-requires-clause-f_value
frame_size-sum-requires-clause-f_value c = frame-request c.args.k c.args.fs c.args.depth c.loop-d.d c.requires.2 (omega arith)

pub overflow_add-sum : goal.overflow_add-sum
overflow_add-sum c =
    let y = frame-request c.args.k c.args.fs c.args.depth c.loop-d.d c.requires.2 (omega arith) in
    omega (arith, c.frame_size-sum.ensures, size_small c.args.k c.requires.0 (frame_at c.args.fs c.loop-d.d) y)

pub loop-d-preserved : goal.loop-d-preserved
loop-d-preserved c =
    let y = frame-request c.args.k c.args.fs c.args.depth c.loop-d.d c.requires.2 (omega arith) in
    let small = size_small c.args.k c.requires.0 (frame_at c.args.fs c.loop-d.d) y in
    (omega (arith, c.frame_size-sum.ensures, sizes-more c.args.k c.args.fs c.loop-d.d), omega (arith, c.frame_size-sum.ensures, small))
