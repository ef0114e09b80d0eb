-- A bank has 32 registers. Assumes nothing.
use Rattle.base_words.specs.Splice.{splice}
use Rattle.base_words.proofs.Splices.{part-whole}
use mathlib.Core.Path.{ap, ◌∙◌}
use Rattle.frame_state_words.proofs.put_bank.Goals as goal

pub returns : goal.returns
returns c =
    (c.copy.ensures ∙ ap (splice c.args.words.now c.args.at) (part-whole 32 c.args.bank c.well_formed.1.1.0.1.0.1), c.well_formed.1.1.0.1.0.1)
