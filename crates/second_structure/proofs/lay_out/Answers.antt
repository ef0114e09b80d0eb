-- Each turn lays the next type, and after the last one none is left.
use native.Mathlib.Omega.{arith}
use Rattle.second_parameters.proofs.Turns.{table-whole, few-left, small-here, next-here, gone}
use Rattle.second_structure.specs.Structure.{fields_from, words_to}
use Rattle.second_structure.proofs.Turns.{laying-start, laying-more}
use Rattle.second_structure.proofs.lay_out.Goals as goal

pub loop-i-init : goal.loop-i-init
loop-i-init c = laying-start _ _ _ _ c.requires.2

pub words_in-count-requires : goal.words_in-count-requires
words_in-count-requires c = (c.requires.0, c.requires.1, rw c.size_of.ensures (small-here _ _ _ c.requires.3 c.loop-i-test.true))

pub overflow_add-words : goal.overflow_add-words
overflow_add-words c =
    let few = few-left _ _ c.requires.3 c.loop-i-test.true in
    omega (arith, c.loop-i.invariant.small, c.words_in-count.ensures.1)

pub loop-i-preserved : goal.loop-i-preserved
loop-i-preserved c =
    let few = few-left _ _ c.requires.3 c.loop-i-test.true in
    rw (c.words_in-count.ensures.0, c.size_of.ensures)
    (laying-more _ _ _ _ _ _ _ _ c.requires.0 c.requires.1 few (small-here _ _ _ c.requires.3 c.loop-i-test.true) (next-here _ _ _ c.requires.3 c.loop-i-test.true) c.loop-i.invariant)

pub returns : goal.returns
unfolding fields_from words_to
returns c =
    let z = gone _ c.loop-i.i c.requires.3 c.loop-i-test.false in
    let t = table-whole _ _ _ _ (rw z at c.loop-i.invariant.table) in
    let l = rw z at c.loop-i.invariant.last in
    (cc, omega (arith, c.loop-i.invariant.small, c.requires.3.few))
