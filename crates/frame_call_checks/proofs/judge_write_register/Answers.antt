-- The state's tests, then the write's. Assumes nothing.
use Rattle.std.proofs.lemmas.Result.{err_from_is_err_and}
use Rattle.frame_rules.specs.Frames.{bank_of, writable_register}
use Rattle.frame_machine.specs.Machine.{state_tests, top, write_register_answer}
use mathlib.Core.Bool.{true, false}
use Rattle.frame_machine.proofs.States.{state-yes}
use Rattle.frame_machine.proofs.Judging.{judge-next, judge-stops}
use Rattle.std.specs.Prelude.{Ok}
use Rattle.frame_machine.specs.declared.FrameRefusal.TheVariants.{NotPermitted}
use Rattle.frame_machine.specs.Answers.{judge, require}
use mathlib.Core.List.{[], ◌∷◌}
use borrow.Author.Tests.{not-true, not-false}
use mathlib.Core.Path.{◌≡◌, sym, ◌∙◌}
use Rattle.frame_call_checks.proofs.judge_write_register.Goals as goal

pub top_frame-f-requires : goal.top_frame-f-requires
top_frame-f-requires c =
    let acc : judge (state_tests c.args.k c.args.s c.args.n) ≡ Ok tt = sym c.judge_state.ensures ∙ c.in_ok-judge_state.was in
    (state-yes c.args.k c.args.s c.args.n acc).shallow

pub returns-then-not-register_writable : goal.returns-then-not-register_writable
unfolding write_register_answer judge
returns-then-not-register_writable c =
    let acc : judge (state_tests c.args.k c.args.s c.args.n) ≡ Ok tt = sym c.judge_state.ensures ∙ c.in_ok-judge_state.was in
    let test : writable_register c.args.k (top c.args.k c.args.s) (bank_of c.args.bank) c.args.number c.args.value ≡ false
    = sym (rw (c.bank_of-b.ensures, c.top_frame-f.ensures) at c.register_writable.ensures) ∙ not-true c.register_writable.result c.if-not-register_writable.true-raw in
    sym (judge-next (state_tests c.args.k c.args.s c.args.n) (require (writable_register c.args.k (top c.args.k c.args.s) (bank_of c.args.bank) c.args.number c.args.value) NotPermitted ∷ []) acc ∙ rw test)

pub returns-in_err-judge_state : goal.returns-in_err-judge_state
unfolding write_register_answer
returns-in_err-judge_state c =
    let p = err_from_is_err_and c.from_residual.result c.from_residual.ensures.1 in
    rw (p.1, p.2) (sym (judge-stops (state_tests c.args.k c.args.s c.args.n) (require (writable_register c.args.k (top c.args.k c.args.s) (bank_of c.args.bank) c.args.number c.args.value) NotPermitted ∷ []) _ (sym c.judge_state.ensures ∙ c.in_err-judge_state.was)))

pub returns : goal.returns
unfolding write_register_answer judge
returns c =
    let acc : judge (state_tests c.args.k c.args.s c.args.n) ≡ Ok tt = sym c.judge_state.ensures ∙ c.in_ok-judge_state.was in
    let test : writable_register c.args.k (top c.args.k c.args.s) (bank_of c.args.bank) c.args.number c.args.value ≡ true
    = sym (rw (c.bank_of-b.ensures, c.top_frame-f.ensures) at c.register_writable.ensures) ∙ not-false c.register_writable.result c.if-not-register_writable.false-raw in
    sym (judge-next (state_tests c.args.k c.args.s c.args.n) (require (writable_register c.args.k (top c.args.k c.args.s) (bank_of c.args.bank) c.args.number c.args.value) NotPermitted ∷ []) acc ∙ rw test)
