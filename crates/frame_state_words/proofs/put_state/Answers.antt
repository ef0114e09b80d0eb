-- The parts of a state, one after the other, are all the words. Assumes nothing.
use Rattle.frame_word_layout.proofs.Laws.{state-put}
use lib.ListN.{length-set}
use mathlib.Core.Path.{◌∙◌}
use Rattle.frame_state_words.proofs.put_state.Goals as goal

pub put_frames-requires : goal.put_frames-requires
put_frames-requires c = c.put_registers.auto.words ∙ simp length-set c.requires

pub shape_of-words : goal.shape_of-words
shape_of-words c = c.put_frames.auto.words ∙ c.put_registers.auto.words ∙ simp length-set

pub returns : goal.returns
returns c =
    rw (c.put_frames.ensures.0, c.put_registers.ensures.0, c.from.ensures) (state-put c.args.words.now c.args.s c.requires c.put_registers.ensures.1 c.put_frames.ensures.1)
