-- By the family of conventions.
use native.Mathlib.Omega.{arith}
use mathlib.Core.Path.{refl}
use Rattle.plan_stored_items.specs.Places.{listed_from}
use Rattle.plan_stored_items.proofs.listed_from.Goals as goal

pub returns-in-Power : goal.returns-in-Power
unfolding listed_from
returns-in-Power c = rw c.in-Power.is (refl, omega arith)

pub returns-in-Z : goal.returns-in-Z
unfolding listed_from
returns-in-Z c = rw c.in-Z.is (refl, omega arith)
