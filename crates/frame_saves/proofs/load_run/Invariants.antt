-- Each turn restores one register and leaves the rest of the run to the turns after it: the invariant is that what is left, restored from here, gives the whole run. Assumes nothing.
use Prim.Native.Nat.{◌+◌, ◌-◌, ◌*◌, ◌≤◌}
use mathlib.Core.Path.{◌≡◌}
use lib.ListN.{length}
use Rattle.frame_saves.specs.Saves.{load_run}
use Rattle.frame_saves.proofs.load_run.Given as goal

abbrev pub invariant-loop-i : goal.invariant-loop-i
invariant-loop-i l = (load_run l.ys l.memory l.a l.w l.i (l.n + l.c - l.i) ≡ load_run l.initial.ys l.memory l.at l.w l.n l.c) × (l.a + l.w * (l.n + l.c - l.i) ≤ length l.memory)
