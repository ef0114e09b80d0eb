-- The numbers before the index are low, and lowering all of these gives the whole. Assumes nothing.
use Rattle.frame_rules.specs.Frames.{lowered}
use Rattle.std.proofs.Common.{ℕ, ◌≡◌, ◌<◌, ◌≤◌, get_or}
use Rattle.frame_starting.proofs.lower.Given as goal

abbrev pub invariant-loop-x : goal.invariant-loop-x
invariant-loop-x l = (lowered l.m l.x-items 32 ≡ lowered l.m l.initial.x-items 32) × ((k : ℕ) → k < l.x-index → get_or l.x-items k 0 ≤ l.m)
