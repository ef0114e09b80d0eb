-- The machine's own call of the state read; where it is accepted, what it changed is put back. Assumes nothing.
use Rattle.frame_machine.specs.declared.FrameOutcome.{FrameOutcome}
use Rattle.frame_word_layout.proofs.Laws.{leave-depth, leave-yes-words, leave-no-words}
use mathlib.Core.Path.{sym, ap, ◌∙◌}
use borrow.Author.Rules.{rules}
use Rattle.frame_word_calls.proofs.leave.Goals as goal

pub put_changed-requires : goal.put_changed-requires
put_changed-requires c =
    let outcome = rw c.state_in-s.ensures at c.leave-o.ensures in
    (search rules, rw outcome (leave-depth c.args.words.now c.args.memory.now (sym (ap (λ (o : FrameOutcome). o.answer) outcome) ∙ c.in_ok-o.was)))

pub returns-in_err-o-clause-words_after : goal.returns-in_err-o-clause-words_after
returns-in_err-o-clause-words_after c =
    let outcome = rw c.state_in-s.ensures at c.leave-o.ensures in
    let no = sym (ap (λ (o : FrameOutcome). o.answer) outcome) ∙ c.in_err-o.was in
    leave-no-words c.args.words.now c.args.memory.now _ no

pub returns-clause-words_after : goal.returns-clause-words_after
returns-clause-words_after c =
    let outcome = rw c.state_in-s.ensures at c.leave-o.ensures in
    let yes = sym (ap (λ (o : FrameOutcome). o.answer) outcome) ∙ c.in_ok-o.was in
    rw outcome at c.put_changed.ensures ∙ leave-yes-words c.args.words.now c.args.memory.now yes
