-- The test of each number, by the definition. Assumes nothing.
use Rattle.std.proofs.Common.{rules, EachIndex, IsTrue, slice_index, ◌↔◌, ◌≤◌}
use native.Mathlib.Omega.{arith}
use Rattle.frame_rules.proofs.Halves.{within-decides}
use Rattle.frame_bounds.proofs.all_within.Goals as goal

every : (c : goal.After-all) → IsTrue c.all.result ↔ EachIndex c.args.xs (λ k. slice_index c.args.xs k ≤ c.args.m)
every c = search rules

pub returns : goal.returns
returns c = within-decides c.args.m c.args.xs 32 c.all.result (omega arith) (every c)
