-- The step of a first argument that is a pointer, computed.
use mathlib.Core.Path.{sym, ◌∙◌}
use native.Mathlib.Omega.{arith}
use Rattle.plan_places.specs.Step.{rules_of}
use Rattle.plan_places.proofs.Bounds.{rules-lawful, fresh-roomy}
use Rattle.plan_placing.proofs.Address.{power-past, z-past}
use Rattle.plan_placing.proofs.past_address.Goals as goal

pub overflow_add-result : goal.overflow_add-result
overflow_add-result c = rw c.cursor_of-k.ensures (omega (arith, fresh-roomy (rules_of c.args.c)))

pub overflow_add-result-in-Z : goal.overflow_add-result-in-Z
overflow_add-result-in-Z c = rw c.cursor_of-k.ensures (omega (arith, fresh-roomy (rules_of c.args.c)))

pub returns-in-Power : goal.returns-in-Power
returns-in-Power c =
    let e = sym c.call_rules_of.ensures ∙ c.in-Power.is in
    let l = rw e at (rules-lawful c.args.c) in
    rw e (power-past _ _ l.0 (rw e at c.cursor_of-k.ensures))

pub returns-in-Z : goal.returns-in-Z
returns-in-Z c =
    let e = sym c.call_rules_of.ensures ∙ c.in-Z.is in
    rw e (z-past _ (rw e at c.cursor_of-k.ensures))
