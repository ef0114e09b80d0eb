-- Down from the top record: what is left to test decides the whole. Assumes nothing.
use Rattle.std.proofs.Common.{◌≡◌}
use Rattle.frame_machine.specs.Machine.{ok_frames}
use Rattle.frame_state_checks.proofs.frames_ok.Given as goal

abbrev pub invariant-loop-d : goal.invariant-loop-d
invariant-loop-d l = ok_frames l.k l.fs l.d ≡ ok_frames l.k l.fs l.depth
