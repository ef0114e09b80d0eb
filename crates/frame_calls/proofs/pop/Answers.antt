-- The top frame lies below its caller's pointer, whose header is in the memory. Assumes nothing.
use Rattle.frame_machine.proofs.Outcomes.{registers-restored}
use Rattle.frame_rules.proofs.Places.{limit-64}
use Rattle.frame_machine.proofs.Coding.{top-request, top-room, top_placed, memory-small, pointer-limit}
use Rattle.frame_rules.specs.Frames.{frame_size}
use Rattle.frame_machine.specs.Machine.{top}
use lib.ListN.{length}
use native.Mathlib.Omega.{arith}
use mathlib.Core.Path.{◌≡◌, ap, ◌∙◌}
use Rattle.frame_calls.proofs.pop.Goals as goal

pub frame_size-z-requires : goal.frame_size-z-requires
frame_size-z-requires c = record {
  lawful_frames = c.requires.0;
  f_value = rw c.top_frame-f.ensures (top-request c.args.k c.requires.0 c.args.s (length c.args.memory.now) c.requires.1.sound c.requires.1.deep);
}

pub overflow_add-o : goal.overflow_add-o
overflow_add-o c =
    let size : c.frame_size-z.result ≡ frame_size c.args.k (top c.args.k c.args.s) = c.frame_size-z.ensures ∙ ap (frame_size c.args.k) c.top_frame-f.ensures in
    omega (
      arith,
      size,
      c.stack_pointer-p.ensures,
      top-room c.args.k c.requires.0 c.args.s (length c.args.memory.now) c.requires.1.sound c.requires.1.deep,
      memory-small c.args.k c.requires.0 c.args.s (length c.args.memory.now) c.requires.1.sound,
    )

pub overflow_add-p : goal.overflow_add-p
overflow_add-p c =
    let size : c.frame_size-z.result ≡ frame_size c.args.k (top c.args.k c.args.s) = c.frame_size-z.ensures ∙ ap (frame_size c.args.k) c.top_frame-f.ensures in
    omega (
      arith,
      size,
      c.stack_pointer-p.ensures,
      top-room c.args.k c.requires.0 c.args.s (length c.args.memory.now) c.requires.1.sound c.requires.1.deep,
      pointer-limit c.args.k c.requires.0 c.args.s (length c.args.memory.now) c.requires.1.sound,
      c.requires.1.sound.over,
      c.requires.1.sound.length,
      limit-64 c.args.k c.requires.0,
    )

pub restore-r-requires : goal.restore-r-requires
restore-r-requires c =
    rw (c.frame_size-z.ensures, c.top_frame-f.ensures, c.stack_pointer-p.ensures) (top_placed c.args.k c.requires.0 c.args.s (length c.args.memory.now) c.requires.1.sound c.requires.1.deep)

pub returns : goal.returns
returns c =
    let r = rw (c.frame_size-z.ensures, c.top_frame-f.ensures, c.stack_pointer-p.ensures) at c.restore-r.ensures in
    registers-restored c.args.k c.args.s c.args.memory.now c.restore-r.result r
