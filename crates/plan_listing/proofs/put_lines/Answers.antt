use Rattle.plan_listing.proofs.Lines.{wrote-line}
use Rattle.plan_text.proofs.Writing.{wrote-length, wrote_nothing, wrote_then}
use Rattle.plan_listing.specs.Text.{accepted_text, lines_text}
use Rattle.plan_places.specs.Places.{Numbered}
use Rattle.plan_plans.specs.Plan.{no_span}
use lib.Seq.{take_all, length-take-le, get_or-take}
use lib.ListN.{take}
use native.Mathlib.Omega.{arith}
use mathlib.Core.Path.{sym, subst}
use Rattle.plan_listing.proofs.put_lines.Goals as goal

pub put_head-next-requires : goal.put_head-next-requires
put_head-next-requires c = omega arith

pub loop-i-init : goal.loop-i-init
unfolding lines_text
loop-i-init c = (wrote_nothing _ _, omega (arith, c.put_head-next.ensures.1))

pub put_line-next-requires : goal.put_line-next-requires
put_line-next-requires c =
    let many = length-take-le c.args.p.now.count c.args.p.now.spans c.requires.room in
    let same = get_or-take c.args.p.now.count c.args.p.now.spans c.loop-i.i no_span (omega arith) in
    (omega (arith, c.loop-i.invariant.1, c.requires.few), subst Numbered (sym same) (c.requires.spans c.loop-i.i))

pub loop-i-preserved : goal.loop-i-preserved
loop-i-preserved c = (
  wrote-line c.args.p.now.convention (take c.args.p.now.count c.args.p.now.spans) c.loop-i.i c.loop-i-test.true c.loop-i.invariant.0 c.put_line-next.ensures.0,
  omega (arith, c.put_line-next.ensures.1, c.loop-i.invariant.1),
)

pub put_result-requires : goal.put_result-requires
put_result-requires c =
    let many = length-take-le c.args.p.now.count c.args.p.now.spans c.requires.room in
    (omega (arith, c.loop-i.invariant.1, c.loop-i.auto.i-end, c.requires.few), c.requires.result)

pub shape_of-text : goal.shape_of-text
shape_of-text c = wrote-length (wrote_then c.put_head-next.ensures.0 (wrote_then c.loop-i.invariant.0 c.put_result.ensures))

pub returns : goal.returns
unfolding accepted_text
returns c =
    let all = take_all c.loop-i.i (take c.args.p.now.count c.args.p.now.spans) (omega arith) in
    wrote_then c.put_head-next.ensures.0 (wrote_then (rw all at c.loop-i.invariant.0) c.put_result.ensures)
