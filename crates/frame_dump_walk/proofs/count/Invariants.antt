-- What is left of the walk, with what was found, counts as the whole. Assumes nothing.
use Rattle.frame_dump.specs.Walk.{walk_from, max_frames, counted}
use Prim.Native.Nat.{◌+◌, ◌-◌}
use mathlib.Core.Path.{◌≡◌}
use Rattle.frame_dump_walk.proofs.count.Given as goal

abbrev pub invariant-loop-left : goal.invariant-loop-left
invariant-loop-left l = (counted l.found (walk_from l.left l.k l.base l.memory l.least l.a) ≡ counted 0 (walk_from max_frames l.k l.base l.memory 0 l.pointer)) × (l.found + l.left ≡ max_frames)

abbrev pub decreases-loop-left : goal.decreases-loop-left
decreases-loop-left l = l.left
