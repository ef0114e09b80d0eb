-- The state's tests, then the four of an enter in their order. Assumes nothing.
use Rattle.std.proofs.lemmas.Result.{err_from_is_err_and}
use Rattle.frame_machine.proofs.States.{state-yes}
use Rattle.frame_machine.proofs.Judging.{judge-next, judge-stops}
use Rattle.frame_rules.specs.declared.Frame.{Frame}
use Rattle.frame_rules.specs.Frames.{frame_size}
use Rattle.frame_rules.proofs.Places.{size_small}
use Rattle.std.specs.Prelude.{Ok}
use Rattle.frame_machine.specs.Answers.{judge}
use Rattle.frame_machine.specs.Machine.{stack_pointer, top, state_tests, enter_tests, enter_answer}
use lib.Dec.{leb}
use mathlib.Core.Bool.{true, false}
use borrow.Author.Tests.{lt-leb, le-leb, lt-ltb, le-ltb, not-true, not-false}
use Prim.Native.Nat.{◌+◌}
use native.Mathlib.Omega.{arith}
use mathlib.Core.Path.{◌≡◌, sym, ap, ◌∙◌}
use Rattle.frame_call_checks.proofs.judge_enter.Goals as goal

pub returns-then-not-request_ok : goal.returns-then-not-request_ok
unfolding enter_answer judge
returns-then-not-request_ok c =
    let acc : judge (state_tests c.args.k c.args.s c.args.n) ≡ Ok tt = sym c.judge_state.ensures ∙ c.in_ok-judge_state.was in
    sym (judge-next (state_tests c.args.k c.args.s c.args.n) (enter_tests c.args.k c.args.s c.args.f) acc ∙ rw (sym c.request_ok.ensures ∙ not-true c.request_ok.result c.if-not-request_ok.true-raw))

pub top_frame-u-requires : goal.top_frame-u-requires
top_frame-u-requires c =
    let acc : judge (state_tests c.args.k c.args.s c.args.n) ≡ Ok tt = sym c.judge_state.ensures ∙ c.in_ok-judge_state.was in
    (state-yes c.args.k c.args.s c.args.n acc).shallow

pub returns-then-u : goal.returns-then-u
unfolding enter_answer judge
returns-then-u c =
    let acc : judge (state_tests c.args.k c.args.s c.args.n) ≡ Ok tt = sym c.judge_state.ensures ∙ c.in_ok-judge_state.was in
    let leaf : (top c.args.k c.args.s).leaf ≡ true = ap (λ (f : Frame). f.leaf) (sym c.top_frame-u.ensures) ∙ c.if-u.true in
    sym (judge-next (state_tests c.args.k c.args.s c.args.n) (enter_tests c.args.k c.args.s c.args.f) acc ∙ rw (
      sym c.request_ok.ensures ∙ not-false c.request_ok.result c.if-not-request_ok.false-raw,
      leaf,
    ))

pub returns-then-s-ge-MAX_ENTERED : goal.returns-then-s-ge-MAX_ENTERED
unfolding enter_answer judge
returns-then-s-ge-MAX_ENTERED c =
    let acc : judge (state_tests c.args.k c.args.s c.args.n) ≡ Ok tt = sym c.judge_state.ensures ∙ c.in_ok-judge_state.was in
    let leaf : (top c.args.k c.args.s).leaf ≡ false = ap (λ (f : Frame). f.leaf) (sym c.top_frame-u.ensures) ∙ c.if-u.false in
    sym (judge-next (state_tests c.args.k c.args.s c.args.n) (enter_tests c.args.k c.args.s c.args.f) acc ∙ rw (
      sym c.request_ok.ensures ∙ not-false c.request_ok.result c.if-not-request_ok.false-raw,
      leaf,
      le-ltb c.args.s.depth 32 (omega arith),
    ))

pub frame_size-z-requires : goal.frame_size-z-requires
frame_size-z-requires c = record {
  lawful_frames = c.requires;
  f_value = sym c.request_ok.ensures ∙ not-false c.request_ok.result c.if-not-request_ok.false-raw;
}

pub overflow_sub-p : goal.overflow_sub-p
overflow_sub-p c =
    let acc : judge (state_tests c.args.k c.args.s c.args.n) ≡ Ok tt = sym c.judge_state.ensures ∙ c.in_ok-judge_state.was in
    omega (arith, c.stack_pointer-p.ensures, (state-yes c.args.k c.args.s c.args.n acc).over)

pub overflow_add-z : goal.overflow_add-z
overflow_add-z c =
    omega (
      arith,
      c.frame_size-z.ensures,
      size_small c.args.k c.requires c.args.f (sym c.request_ok.ensures ∙ not-false c.request_ok.result c.if-not-request_ok.false-raw),
      c.requires.floor,
    )

pub returns-then-p-s : goal.returns-then-p-s
unfolding enter_answer judge
returns-then-p-s c =
    let acc : judge (state_tests c.args.k c.args.s c.args.n) ≡ Ok tt = sym c.judge_state.ensures ∙ c.in_ok-judge_state.was in
    let leaf : (top c.args.k c.args.s).leaf ≡ false = ap (λ (f : Frame). f.leaf) (sym c.top_frame-u.ensures) ∙ c.if-u.false in
    let no : leb (c.args.s.base + frame_size c.args.k c.args.f + c.args.k.floor) (stack_pointer c.args.k c.args.s) ≡ false
    = lt-leb (c.args.s.base + frame_size c.args.k c.args.f + c.args.k.floor) (stack_pointer c.args.k c.args.s) (omega (arith, c.stack_pointer-p.ensures, c.frame_size-z.ensures, (state-yes c.args.k c.args.s c.args.n acc).over)) in
    sym (judge-next (state_tests c.args.k c.args.s c.args.n) (enter_tests c.args.k c.args.s c.args.f) acc ∙ rw (
      sym c.request_ok.ensures ∙ not-false c.request_ok.result c.if-not-request_ok.false-raw,
      leaf,
      lt-ltb c.args.s.depth 32 (omega arith),
      no,
    ))

pub returns-in_err-judge_state : goal.returns-in_err-judge_state
unfolding enter_answer
returns-in_err-judge_state c =
    let p = err_from_is_err_and c.from_residual.result c.from_residual.ensures.1 in
    rw (p.1, p.2) (sym (judge-stops (state_tests c.args.k c.args.s c.args.n) (enter_tests c.args.k c.args.s c.args.f) _ (sym c.judge_state.ensures ∙ c.in_err-judge_state.was)))

pub returns : goal.returns
unfolding enter_answer judge
returns c =
    let acc : judge (state_tests c.args.k c.args.s c.args.n) ≡ Ok tt = sym c.judge_state.ensures ∙ c.in_ok-judge_state.was in
    let leaf : (top c.args.k c.args.s).leaf ≡ false = ap (λ (f : Frame). f.leaf) (sym c.top_frame-u.ensures) ∙ c.if-u.false in
    let yes : leb (c.args.s.base + frame_size c.args.k c.args.f + c.args.k.floor) (stack_pointer c.args.k c.args.s) ≡ true
    = le-leb (c.args.s.base + frame_size c.args.k c.args.f + c.args.k.floor) (stack_pointer c.args.k c.args.s) (omega (arith, c.stack_pointer-p.ensures, c.frame_size-z.ensures, (state-yes c.args.k c.args.s c.args.n acc).over)) in
    sym (judge-next (state_tests c.args.k c.args.s c.args.n) (enter_tests c.args.k c.args.s c.args.f) acc ∙ rw (
      sym c.request_ok.ensures ∙ not-false c.request_ok.result c.if-not-request_ok.false-raw,
      leaf,
      lt-ltb c.args.s.depth 32 (omega arith),
      yes,
    ))
