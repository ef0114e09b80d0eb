use Rattle.plan_line.proofs.Places.{wrote-place}
use Rattle.plan_text.proofs.Writing.{wrote-length, wrote_nothing}
use Rattle.plan_line.specs.Line.{places_text}
use Rattle.plan_places.proofs.Registers.{length-registers}
use Rattle.plan_places.specs.Places.{registers_of}
use lib.Seq.{take_all}
use native.Mathlib.Omega.{arith}
use Rattle.plan_line.proofs.put_registers.Goals as goal

pub loop-i-init : goal.loop-i-init
unfolding places_text
loop-i-init c = (wrote_nothing _ _, omega arith)

pub register_of-p-requires : goal.register_of-p-requires
register_of-p-requires c = (omega arith, omega arith)

pub put_place-next-requires : goal.put_place-next-requires
put_place-next-requires c = omega arith

pub loop-i-preserved : goal.loop-i-preserved
loop-i-preserved c =
    (wrote-place (registers_of c.args.s) c.loop-i.i (omega (arith, length-registers c.args.s)) c.loop-i.invariant.0 (rw c.register_of-p.ensures at c.put_place-next.ensures.0), omega (arith, c.put_place-next.ensures.1, c.loop-i.invariant.1))

pub shape_of-text : goal.shape_of-text
shape_of-text c = wrote-length c.loop-i.invariant.0

pub returns : goal.returns
returns c =
    let all = take_all c.loop-i.i (registers_of c.args.s) (omega (arith, length-registers c.args.s)) in
    (rw all at c.loop-i.invariant.0, omega (arith, c.loop-i.invariant.1, c.loop-i.auto.i-end))
