-- By cases on the family.
use Rattle.plan_places.specs.Helpers.{LawfulCalls}
use native.Mathlib.Omega.{arith}
use mathlib.Core.Path.{subst}
use Rattle.plan_placing.proofs.advance.Goals as goal

pub advance-requires : goal.advance-requires
advance-requires c = let h = subst LawfulCalls c.in-Power.is c.requires.0 in (omega arith, omega arith, omega arith, omega arith)

pub returns-in-Power : goal.returns-in-Power
returns-in-Power c = rw c.in-Power.is c.advance.ensures

pub returns-in-Z : goal.returns-in-Z
returns-in-Z c = rw c.in-Z.is c.advance-in-Z.ensures
