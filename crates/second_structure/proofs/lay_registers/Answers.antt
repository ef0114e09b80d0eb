-- Each turn covers the next type's field, and after the last one none is left.
use lib.Seq.{drop-cons}
use native.Mathlib.Omega.{arith}
use Rattle.second_parameters.specs.Values.{no_run}
use Rattle.second_parameters.proofs.Turns.{table-whole, few-left, next-here, gone}
use Rattle.second_structure.specs.Structure.{registers_over}
use Rattle.second_structure.proofs.Turns.{covering-start, covering-more}
use Rattle.second_structure.proofs.lay_registers.Goals as goal

pub loop-i-init : goal.loop-i-init
loop-i-init c = rw c.no_parameters-laid.ensures (covering-start _ _ _ _ _)

pub lay_over-requires : goal.lay_over-requires
lay_over-requires c =
    let few = few-left _ _ c.requires.1 c.loop-i-test.true in
    (c.requires.0, omega (arith, c.requires.2.ends c.loop-i.i), omega (arith, c.loop-i.invariant.small), c.floats_of-asked.ensures.1)

pub overflow_add-earlier : goal.overflow_add-earlier
overflow_add-earlier c =
    let few = few-left _ _ c.requires.1 c.loop-i-test.true in
    omega (arith, c.loop-i.invariant.small, c.floats_of-asked.ensures.1)

pub loop-i-preserved : goal.loop-i-preserved
loop-i-preserved c =
    let few = few-left _ _ c.requires.1 c.loop-i-test.true in
    let two = rw c.floats_of-asked.ensures.0 at c.floats_of-asked.ensures.1 in
    let field = drop-cons c.args.s.fields c.loop-i.i no_run (omega (arith, c.requires.2.room)) in
    rw (c.lay_over.ensures, c.floats_of-asked.ensures.0) (covering-more _ _ _ _ _ _ _ _ _ _ few two (next-here _ _ _ c.requires.1 c.loop-i-test.true) field c.loop-i.invariant)

pub returns : goal.returns
unfolding registers_over
returns c =
    let z = gone _ c.loop-i.i c.requires.1 c.loop-i-test.false in
    table-whole _ _ _ _ (rw z at c.loop-i.invariant.table)
