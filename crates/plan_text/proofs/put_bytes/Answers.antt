use Rattle.plan_text.proofs.Writing.{wrote-length, wrote_nothing, wrote-more}
use lib.Seq.{length-take-le, take_all}
use native.Mathlib.Omega.{arith}
use Rattle.plan_text.proofs.put_bytes.Goals as goal

pub loop-b-init : goal.loop-b-init
loop-b-init c = wrote_nothing _ _

pub put_byte-next-requires : goal.put_byte-next-requires
put_byte-next-requires c =
    let many = length-take-le c.loop-b.b-index c.args.bs.now (omega arith) in
    omega (arith, c.loop-b.invariant.end)

pub loop-b-preserved : goal.loop-b-preserved
loop-b-preserved c = wrote-more c.args.bs.now c.loop-b.b-index (omega arith) c.loop-b.invariant c.put_byte-next.ensures

pub shape_of-text : goal.shape_of-text
shape_of-text c = wrote-length c.loop-b.invariant

pub returns : goal.returns
returns c = let all = take_all c.loop-b.b-index c.args.bs.now (omega arith) in rw all at c.loop-b.invariant
