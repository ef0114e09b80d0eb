-- One record more, and at the end none is left. Assumes nothing.
use Rattle.std.proofs.Common.{◌+◌, ◌*◌, refl, sym, ◌∙◌, arith}
use Rattle.frame_word_layout.specs.Words.{record_words, records_at}
use Rattle.frame_word_layout.proofs.Laws.{frames-turn, frames-end}
use Rattle.frame_state_words.proofs.put_frames.Goals as goal

pub loop-i-init : goal.loop-i-init
loop-i-init c = (refl, refl)

pub put_frame-requires : goal.put_frame-requires
put_frame-requires c = omega arith

pub loop-i-preserved : goal.loop-i-preserved
loop-i-preserved c =
    let turn = frames-turn c.loop-i.words c.args.fs c.loop-i.i (omega arith) in
    (rw c.put_frame.ensures (turn ∙ c.loop-i.invariant.0), c.put_frame.auto.words ∙ c.loop-i.invariant.1)

pub shape_of-words : goal.shape_of-words
shape_of-words c = c.loop-i.invariant.1

pub returns : goal.returns
returns c =
    (sym (frames-end c.loop-i.words c.args.fs (records_at + record_words * c.loop-i.i) c.loop-i.i (omega arith)) ∙ c.loop-i.invariant.0, omega arith)
