-- The counters of the first cursor, from none on. Assumes nothing.
use mathlib.Core.Path.{ap}
use native.Mathlib.Omega.{arith}
use Rattle.plan_places.specs.Step.{rules_of}
use Rattle.plan_places.proofs.Bounds.{rules-lawful}
use Rattle.call_walker.specs.Walker.{walker}
use Rattle.call_walking.proofs.Parts.{start-countable, start-after}
use Rattle.call_walking.proofs.walker_of.Goals as goal

pub counters_after-at-requires : goal.counters_after-at-requires
counters_after-at-requires c = (record { general = omega arith; floating = omega arith; stack = omega arith }, rw (c.call_rules_of-r.ensures, c.start-d.ensures) (start-countable (rules_of c.args.c) _ (rules-lawful c.args.c)))

pub returns : goal.returns
returns c = rw (c.counters_after-at.ensures, c.call_rules_of-r.ensures, c.start-d.ensures, c.hidden_in-hidden.ensures) (ap (walker _ _ _) (start-after (rules_of c.args.c) _))
