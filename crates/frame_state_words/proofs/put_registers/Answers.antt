-- The banks, LR and CR one after the other. Assumes nothing.
use Rattle.frame_word_layout.proofs.Laws.{registers-put, length-register-words}
use lib.ListN.{length-set}
use native.Mathlib.Omega.{arith}
use mathlib.Core.Path.{◌∙◌}
use Rattle.frame_state_words.proofs.put_registers.Goals as goal

pub bounds-words-69 : goal.bounds-words-69
bounds-words-69 c = simp length-set (omega (arith, c.put_bank-2.auto.words, c.put_bank.auto.words))

pub shape_of-words : goal.shape_of-words
shape_of-words c = simp length-set (c.put_bank-2.auto.words ∙ c.put_bank.auto.words)

pub returns : goal.returns
returns c =
    (rw (c.put_bank-2.ensures.0, c.put_bank.ensures.0) (registers-put c.args.words.now c.args.r c.put_bank.ensures.1 c.put_bank-2.ensures.1), length-register-words c.args.r c.put_bank.ensures.1 c.put_bank-2.ensures.1)
