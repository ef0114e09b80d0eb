-- The machine's own call of the state read; where it is accepted, what it changed is put back. Assumes nothing.
use Rattle.frame_machine.specs.declared.FrameOutcome.{FrameOutcome}
use Rattle.frame_word_layout.proofs.Laws.{enter-depth, enter-yes-words, enter-no-words}
use lib.ListN.{length}
use mathlib.Core.Path.{sym, ap, ◌∙◌}
use borrow.Author.Rules.{rules}
use Rattle.frame_word_calls.proofs.enter.Goals as goal

pub put_changed-requires : goal.put_changed-requires
put_changed-requires c =
    let outcome = rw (c.state_in-s.ensures, c.frame_in-f.ensures) at c.enter-o.ensures.value in
    (search rules, rw c.state_in-s.ensures (enter-depth c.args.words.now (length c.args.memory.now) c.args.request.now (sym (ap (λ (o : FrameOutcome). o.answer) outcome) ∙ c.in_ok-o.was)))

pub returns-in_err-o-clause-words_after : goal.returns-in_err-o-clause-words_after
returns-in_err-o-clause-words_after c =
    let outcome = rw (c.state_in-s.ensures, c.frame_in-f.ensures) at c.enter-o.ensures.value in
    let no = sym (ap (λ (o : FrameOutcome). o.answer) outcome) ∙ c.in_err-o.was in
    enter-no-words c.args.words.now (length c.args.memory.now) c.args.request.now _ no

pub returns-clause-words_after : goal.returns-clause-words_after
returns-clause-words_after c =
    let outcome = rw (c.state_in-s.ensures, c.frame_in-f.ensures) at c.enter-o.ensures.value in
    let yes = sym (ap (λ (o : FrameOutcome). o.answer) outcome) ∙ c.in_ok-o.was in
    rw (outcome, c.state_in-s.ensures) at c.put_changed.ensures ∙ enter-yes-words c.args.words.now (length c.args.memory.now) c.args.request.now yes
