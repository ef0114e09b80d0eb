-- Each turn saves one register and leaves the rest of the run to the turns after it: the invariant is that what is left, saved from here, gives the whole run. Assumes nothing.
use Prim.Native.Nat.{◌+◌, ◌-◌, ◌*◌, ◌≤◌}
use mathlib.Core.Path.{◌≡◌}
use lib.ListN.{length}
use Rattle.frame_saves.specs.Saves.{save_run}
use Rattle.frame_saves.proofs.save_run.Given as goal

abbrev pub invariant-loop-i : goal.invariant-loop-i
invariant-loop-i l = (save_run l.memory l.xs l.a l.w l.i (l.n + l.c - l.i) ≡ save_run l.initial.memory l.xs l.at l.w l.n l.c) × (l.a + l.w * (l.n + l.c - l.i) ≤ length l.initial.memory) × (length l.memory ≡ length l.initial.memory)
