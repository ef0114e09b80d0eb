-- The state's tests, then the write's. Assumes nothing.
use Rattle.std.proofs.lemmas.Result.{err_from_is_err_and}
use Rattle.frame_machine.specs.Machine.{state_tests, writable_address, write_memory_answer}
use Rattle.frame_machine.proofs.States.{state-yes}
use Rattle.frame_machine.proofs.Judging.{judge-next, judge-stops}
use Rattle.std.specs.Prelude.{Ok}
use Rattle.frame_machine.specs.declared.FrameRefusal.TheVariants.{NotPermitted}
use Rattle.frame_machine.specs.Answers.{judge, require}
use mathlib.Core.List.{[], ◌∷◌}
use borrow.Author.Tests.{not-true, not-false}
use mathlib.Core.Path.{◌≡◌, sym, ◌∙◌}
use Rattle.frame_call_checks.proofs.judge_write_memory.Goals as goal

pub address_writable-requires : goal.address_writable-requires
address_writable-requires c =
    let acc : judge (state_tests c.args.k c.args.s c.args.n) ≡ Ok tt = sym c.judge_state.ensures ∙ c.in_ok-judge_state.was in
    (c.requires, state-yes c.args.k c.args.s c.args.n acc)

pub returns-then-not-address_writable : goal.returns-then-not-address_writable
unfolding write_memory_answer judge
returns-then-not-address_writable c =
    let acc : judge (state_tests c.args.k c.args.s c.args.n) ≡ Ok tt = sym c.judge_state.ensures ∙ c.in_ok-judge_state.was in
    sym (judge-next (state_tests c.args.k c.args.s c.args.n) (require (writable_address c.args.k c.args.s c.args.address c.args.m) NotPermitted ∷ []) acc ∙ rw (sym c.address_writable.ensures ∙ not-true c.address_writable.result c.if-not-address_writable.true-raw))

pub returns-in_err-judge_state : goal.returns-in_err-judge_state
unfolding write_memory_answer
returns-in_err-judge_state c =
    let p = err_from_is_err_and c.from_residual.result c.from_residual.ensures.1 in
    rw (p.1, p.2) (sym (judge-stops (state_tests c.args.k c.args.s c.args.n) (require (writable_address c.args.k c.args.s c.args.address c.args.m) NotPermitted ∷ []) _ (sym c.judge_state.ensures ∙ c.in_err-judge_state.was)))

pub returns : goal.returns
unfolding write_memory_answer judge
returns c =
    let acc : judge (state_tests c.args.k c.args.s c.args.n) ≡ Ok tt = sym c.judge_state.ensures ∙ c.in_ok-judge_state.was in
    sym (judge-next (state_tests c.args.k c.args.s c.args.n) (require (writable_address c.args.k c.args.s c.args.address c.args.m) NotPermitted ∷ []) acc ∙ rw (sym c.address_writable.ensures ∙ not-false c.address_writable.result c.if-not-address_writable.false-raw))
