-- The depth, the registers and the record one after the other. Assumes nothing.
use Rattle.frame_word_layout.specs.Calls.{changed}
use lib.ListN.{length-set}
use mathlib.Core.Path.{◌∙◌}
use Rattle.frame_state_words.proofs.put_changed.Goals as goal

pub put_frame-requires : goal.put_frame-requires
put_frame-requires c = (c.put_registers.auto.words ∙ simp length-set c.requires.0, c.requires.1)

pub shape_of-words : goal.shape_of-words
shape_of-words c = c.put_frame.auto.words ∙ c.put_registers.auto.words ∙ simp length-set

pub returns : goal.returns
unfolding changed
returns c = rw (c.put_frame.ensures, c.put_registers.ensures.0)
