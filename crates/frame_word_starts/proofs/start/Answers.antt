-- The start of the registers read, and all its words. Assumes nothing.
use mathlib.Core.Path.{ap, ◌∙◌}
use lib.ListN.{length}
use Rattle.frame_machine.specs.declared.FrameOutcome.{FrameOutcome}
use Rattle.frame_word_layout.proofs.Laws.{start-words}
use borrow.Author.Rules.{rules}
use Rattle.frame_word_starts.proofs.start.Goals as goal

pub returns : goal.returns
returns c =
    let outcome = rw c.registers_in-handed.ensures at c.start-o.ensures.value in
    record {
      value = c.put_start.ensures.value ∙ ap (λ (o : FrameOutcome). o.answer) outcome;
      words_after = rw outcome at c.put_start.ensures.words_after ∙ start-words c.args.registers.now (search rules) c.args.c c.args.base (length c.args.memory.now);
      memory_after = c.start-o.ensures.memory_after;
    }
