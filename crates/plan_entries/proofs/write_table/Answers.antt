use mathlib.Core.Path.{ap, ◌∙◌}
use native.Mathlib.Omega.{arith}
use lib.ListN.{length, take}
use lib.Seq.{length-take-le, take_all}
use Rattle.base_words.proofs.Splices.{length-overlay}
use Rattle.plan_entries.proofs.Copies.{copy_start, copy_more, copy-none, copy-all}
use Rattle.plan_entries.proofs.write_table.Goals as goal

pub returns-then-table-n : goal.returns-then-table-n
returns-then-table-n c = copy-none _ _ _ (omega arith) c.if-table-n.true

pub loop-i-init : goal.loop-i-init
loop-i-init c = copy_start c.args.table.now (take c.args.n c.args.kept.now)

pub bounds-table-i : goal.bounds-table-i
bounds-table-i c =
    let same = ap length c.loop-i.invariant ∙ length-overlay _ _ in
    let many = length-take-le c.args.n c.args.kept.now c.requires in
    omega arith

pub loop-i-preserved : goal.loop-i-preserved
loop-i-preserved c = rw c.from.ensures (copy_more _ (take c.args.n c.args.kept.now) _ (omega arith) _ c.loop-i.invariant)

pub shape_of-table : goal.shape_of-table
shape_of-table c = ap length c.loop-i.invariant ∙ length-overlay _ _

pub returns : goal.returns
returns c =
    let all = take_all c.loop-i.i (take c.args.n c.args.kept.now) (omega arith) in
    rw all at c.loop-i.invariant ∙ copy-all c.args.table.now c.args.kept.now c.args.n c.requires (omega arith)
