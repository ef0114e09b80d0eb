-- A word more is copied at each turn. Assumes nothing.
use Rattle.std.proofs.Common.{◌+◌, ◌-◌, refl, sym, ◌∙◌, arith}
use lib.ListN.{length-set}
use Rattle.frame_word_layout.proofs.Laws.{copy_start, copy-turn, copy-end}
use Rattle.frame_state_words.proofs.copy.Goals as goal

pub loop-i-init : goal.loop-i-init
loop-i-init c = (copy_start c.args.to.now c.args.from.now c.args.at c.args.start c.args.n, refl)

pub loop-i-preserved : goal.loop-i-preserved
loop-i-preserved c =
    let turn = copy-turn c.loop-i.to c.args.from.now c.args.at c.args.start c.args.n c.loop-i.i (omega arith) (omega arith) in
    (turn ∙ c.loop-i.invariant.0, simp length-set c.loop-i.invariant.1)

pub shape_of-to : goal.shape_of-to
shape_of-to c = c.loop-i.invariant.1

pub returns : goal.returns
returns c =
    sym (copy-end (c.args.n - c.loop-i.i) c.loop-i.to c.args.from.now (c.args.at + c.loop-i.i) (c.args.start + c.loop-i.i) (omega arith)) ∙ c.loop-i.invariant.0
