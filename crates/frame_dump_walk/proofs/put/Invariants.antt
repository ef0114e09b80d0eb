-- The frames from i on are still to be put, each where the one before points. Assumes nothing.
use Rattle.base_words.specs.Splice.{splice}
use Rattle.frame_dump.specs.Walk.{walk_from, max_frames, found_in}
use Rattle.frame_dump.proofs.Laws.{Follow}
use lib.ListN.{length, drop}
use Prim.Native.Nat.{◌-◌, ◌≤◌}
use mathlib.Core.Path.{◌≡◌}
use Rattle.frame_dump_walk.proofs.put.Given as goal

abbrev pub invariant-loop-i : goal.invariant-loop-i
invariant-loop-i l = let xs = found_in (walk_from max_frames l.k l.base l.memory 0 l.pointer) in
    (splice l.list l.i (drop l.i xs) ≡ splice l.initial.list 0 xs) × Follow l.k l.base l.memory l.a (drop l.i xs)
