-- The sum so far is that of the records so far. Assumes nothing.
use Rattle.std.proofs.Common.{◌≡◌, ◌≤◌, ◌*◌}
use Rattle.frame_rules.specs.Frames.{most_size}
use Rattle.frame_machine.specs.Machine.{sizes}
use Rattle.frame_state_checks.proofs.sizes_of.Given as goal

abbrev pub invariant-loop-d : goal.invariant-loop-d
invariant-loop-d l = (l.sum ≡ sizes l.k l.fs l.d) × (l.sum ≤ most_size * l.d)
