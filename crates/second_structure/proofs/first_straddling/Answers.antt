-- Each turn looks at the next type, and after the last one none is left.
use mathlib.Core.Path.{sym, ◌∙◌}
use native.Mathlib.Omega.{arith}
use Rattle.second_parameters.proofs.Turns.{few-left, next-here, gone}
use Rattle.second_structure.proofs.Turns.{looking-start, looking-found, looking-more, looking-end}
use Rattle.second_structure.proofs.first_straddling.Goals as goal

pub loop-i-init : goal.loop-i-init
loop-i-init c = looking-start _ _

pub is_straddling-requires : goal.is_straddling-requires
is_straddling-requires c =
    let few = few-left _ _ c.requires c.loop-i-test.true in
    (omega (arith, c.loop-i.invariant.small), c.floats_of-asked.ensures.1)

pub returns-then-is_straddling : goal.returns-then-is_straddling
returns-then-is_straddling c =
    looking-found _ _ _ _ _ (next-here _ _ _ c.requires c.loop-i-test.true) (rw c.floats_of-asked.ensures.0 at (sym c.is_straddling.ensures ∙ c.if-is_straddling.true)) c.loop-i.invariant

pub overflow_add-earlier : goal.overflow_add-earlier
overflow_add-earlier c =
    let few = few-left _ _ c.requires c.loop-i-test.true in
    omega (arith, c.loop-i.invariant.small, c.floats_of-asked.ensures.1)

pub loop-i-preserved : goal.loop-i-preserved
loop-i-preserved c =
    rw c.floats_of-asked.ensures.0
    (looking-more _ _ _ _ _ (next-here _ _ _ c.requires c.loop-i-test.true) (rw c.floats_of-asked.ensures.0 at c.floats_of-asked.ensures.1)
    (rw c.floats_of-asked.ensures.0 at (sym c.is_straddling.ensures ∙ c.if-is_straddling.false)) c.loop-i.invariant)

pub returns : goal.returns
returns c = looking-end _ _ _ _ (gone _ c.loop-i.i c.requires c.loop-i-test.false) c.loop-i.invariant
