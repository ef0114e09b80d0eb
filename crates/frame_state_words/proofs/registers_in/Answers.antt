-- Each bank is copied whole. Assumes nothing.
use Rattle.base_words.specs.Splice.{part}
use Rattle.base_words.proofs.Splices.{length_part, splice-whole}
use Rattle.frame_word_layout.specs.Words.{registers_in}
use lib.ListN.{replicate}
use Prim.Native.Nat.{◌+◌}
use native.Mathlib.Omega.{arith}
use mathlib.Core.Path.{◌≡◌, ◌∙◌}
use Rattle.frame_state_words.proofs.registers_in.Goals as goal

pub returns : goal.returns
unfolding registers_in
returns c =
    let general : c.copy.new.to ≡ part c.args.at 32 c.args.words.now = c.copy.ensures ∙ splice-whole (replicate 32 0) (part c.args.at 32 c.args.words.now) (length_part c.args.at 32 c.args.words.now (omega arith)) in
    let floating : c.copy-2.new.to ≡ part (c.args.at + 32) 32 c.args.words.now = c.copy-2.ensures ∙ splice-whole (replicate 32 0) (part (c.args.at + 32) 32 c.args.words.now) (length_part (c.args.at + 32) 32 c.args.words.now (omega arith)) in
    rw (general, floating)
