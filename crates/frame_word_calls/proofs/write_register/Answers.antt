-- The machine's own call of the state read; where it is accepted, the registers are put back. Assumes nothing.
use Rattle.frame_machine.specs.declared.FrameOutcome.{FrameOutcome}
use Rattle.frame_word_layout.proofs.Laws.{write-yes-words, write-no-words}
use lib.ListN.{length}
use mathlib.Core.Path.{sym, ap, ◌∙◌}
use Rattle.frame_word_calls.proofs.write_register.Goals as goal

pub returns-in_err-o-clause-words_after : goal.returns-in_err-o-clause-words_after
returns-in_err-o-clause-words_after c =
    let outcome = rw c.state_in-s.ensures at c.write_register-o.ensures in
    let no = sym (ap (λ (o : FrameOutcome). o.answer) outcome) ∙ c.in_err-o.was in
    write-no-words c.args.words.now (length c.args.memory.now) c.args.bank c.args.number c.args.value _ no

pub returns-clause-words_after : goal.returns-clause-words_after
returns-clause-words_after c =
    let outcome = rw c.state_in-s.ensures at c.write_register-o.ensures in
    let yes = sym (ap (λ (o : FrameOutcome). o.answer) outcome) ∙ c.in_ok-o.was in
    rw outcome at c.put_registers.ensures.0 ∙ write-yes-words c.args.words.now (length c.args.memory.now) c.args.bank c.args.number c.args.value yes
