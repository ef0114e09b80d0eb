-- The state's tests, then the two of a leave; the slot that is loaded lies in the caller's header or the frame. Assumes nothing.
use Rattle.std.proofs.lemmas.Result.{err_from_is_err_and}
use Rattle.frame_saves.specs.Saves.{load}
use Rattle.frame_rules.proofs.Places.{limit-64, link-in}
use Rattle.frame_machine.proofs.Coding.{top-request, top-room, memory-small, pointer-limit}
use Rattle.frame_machine.proofs.States.{state-yes}
use Rattle.frame_machine.proofs.Judging.{judge-next, judge-stops}
use Rattle.frame_rules.specs.declared.Frame.{Frame}
use Rattle.frame_rules.specs.Frames.{frame_size, link_at}
use mathlib.Core.Bool.{true, false}
use Rattle.std.specs.Prelude.{Ok}
use Rattle.frame_machine.specs.Answers.{judge}
use Rattle.frame_machine.specs.Machine.{stack_pointer, offset, top, state_tests, leave_tests, leave_answer}
use lib.ListN.{length}
use borrow.Author.Tests.{lt-ltb, le-ltb, eq-eqb, ne_eqb}
use Prim.Native.Nat.{◌+◌, ◌<◌}
use native.Mathlib.Omega.{arith}
use mathlib.Core.Path.{◌≡◌, sym, ap, ◌∙◌}
use Rattle.frame_call_checks.proofs.judge_leave.Goals as goal

pub returns-then-s-eq0 : goal.returns-then-s-eq0
unfolding leave_answer judge
returns-then-s-eq0 c =
    let acc : judge (state_tests c.args.k c.args.s (length c.args.memory.now)) ≡ Ok tt = sym c.judge_state.ensures ∙ c.in_ok-judge_state.was in
    let sound = state-yes c.args.k c.args.s (length c.args.memory.now) acc in
    sym (judge-next (state_tests c.args.k c.args.s (length c.args.memory.now)) (leave_tests c.args.k c.args.s c.args.memory.now) acc ∙ rw (le-ltb 0 c.args.s.depth (omega (arith, c.if-s-eq0.true))))

pub top_frame-frame-requires : goal.top_frame-frame-requires
top_frame-frame-requires c =
    let acc : judge (state_tests c.args.k c.args.s (length c.args.memory.now)) ≡ Ok tt = sym c.judge_state.ensures ∙ c.in_ok-judge_state.was in
    let sound = state-yes c.args.k c.args.s (length c.args.memory.now) acc in
    sound.shallow

pub returns-then-frame : goal.returns-then-frame
unfolding leave_answer judge
returns-then-frame c =
    let acc : judge (state_tests c.args.k c.args.s (length c.args.memory.now)) ≡ Ok tt = sym c.judge_state.ensures ∙ c.in_ok-judge_state.was in
    let leaf : (top c.args.k c.args.s).leaf ≡ true = ap (λ (f : Frame). f.leaf) (sym c.top_frame-frame.ensures) ∙ c.if-frame.true in
    sym (judge-next (state_tests c.args.k c.args.s (length c.args.memory.now)) (leave_tests c.args.k c.args.s c.args.memory.now) acc ∙ rw (lt-ltb 0 c.args.s.depth (omega (arith, c.if-s-eq0.false)), leaf))

pub frame_size-z-requires : goal.frame_size-z-requires
frame_size-z-requires c =
    let acc : judge (state_tests c.args.k c.args.s (length c.args.memory.now)) ≡ Ok tt = sym c.judge_state.ensures ∙ c.in_ok-judge_state.was in
    let sound = state-yes c.args.k c.args.s (length c.args.memory.now) acc in
    let deep : 0 < c.args.s.depth = omega (arith, c.if-s-eq0.false) in
    record {
      lawful_frames = c.requires;
      f_value = rw c.top_frame-frame.ensures (top-request c.args.k c.requires c.args.s (length c.args.memory.now) sound deep);
    }

pub overflow_sub-o : goal.overflow_sub-o
overflow_sub-o c =
    let acc : judge (state_tests c.args.k c.args.s (length c.args.memory.now)) ≡ Ok tt = sym c.judge_state.ensures ∙ c.in_ok-judge_state.was in
    let sound = state-yes c.args.k c.args.s (length c.args.memory.now) acc in
    omega (arith, c.stack_pointer-p.ensures, sound.over)

pub overflow_add-o : goal.overflow_add-o
overflow_add-o c =
    let acc : judge (state_tests c.args.k c.args.s (length c.args.memory.now)) ≡ Ok tt = sym c.judge_state.ensures ∙ c.in_ok-judge_state.was in
    let sound = state-yes c.args.k c.args.s (length c.args.memory.now) acc in
    let deep : 0 < c.args.s.depth = omega (arith, c.if-s-eq0.false) in
    let size : c.frame_size-z.result ≡ frame_size c.args.k (top c.args.k c.args.s) = c.frame_size-z.ensures ∙ ap (frame_size c.args.k) c.top_frame-frame.ensures in
    omega (arith, size, c.stack_pointer-p.ensures, top-room c.args.k c.requires c.args.s (length c.args.memory.now) sound deep, memory-small c.args.k c.requires c.args.s (length c.args.memory.now) sound)

pub link_at-at-requires : goal.link_at-at-requires
link_at-at-requires c =
    let acc : judge (state_tests c.args.k c.args.s (length c.args.memory.now)) ≡ Ok tt = sym c.judge_state.ensures ∙ c.in_ok-judge_state.was in
    let sound = state-yes c.args.k c.args.s (length c.args.memory.now) acc in
    let deep : 0 < c.args.s.depth = omega (arith, c.if-s-eq0.false) in
    let size : c.frame_size-z.result ≡ frame_size c.args.k (top c.args.k c.args.s) = c.frame_size-z.ensures ∙ ap (frame_size c.args.k) c.top_frame-frame.ensures in
    (c.requires, omega (arith, size, c.stack_pointer-p.ensures, top-room c.args.k c.requires c.args.s (length c.args.memory.now) sound deep, memory-small c.args.k c.requires c.args.s (length c.args.memory.now) sound))

pub load-requires : goal.load-requires
load-requires c =
    let acc : judge (state_tests c.args.k c.args.s (length c.args.memory.now)) ≡ Ok tt = sym c.judge_state.ensures ∙ c.in_ok-judge_state.was in
    let sound = state-yes c.args.k c.args.s (length c.args.memory.now) acc in
    let deep : 0 < c.args.s.depth = omega (arith, c.if-s-eq0.false) in
    let o = offset c.args.k c.args.s in
    let c' = o + frame_size c.args.k (top c.args.k c.args.s) in
    let at : c.link_at-at.result ≡ link_at c.args.k.linkage c.args.k o c'
    = c.link_at-at.ensures ∙ rw (c.frame_size-z.ensures, c.top_frame-frame.ensures, c.stack_pointer-p.ensures) in
    (c.requires.word, omega (arith, at, link-in c.args.k c.requires o c' (omega arith), top-room c.args.k c.requires c.args.s (length c.args.memory.now) sound deep, c.requires.head))

pub overflow_add-p : goal.overflow_add-p
overflow_add-p c =
    let acc : judge (state_tests c.args.k c.args.s (length c.args.memory.now)) ≡ Ok tt = sym c.judge_state.ensures ∙ c.in_ok-judge_state.was in
    let sound = state-yes c.args.k c.args.s (length c.args.memory.now) acc in
    let deep : 0 < c.args.s.depth = omega (arith, c.if-s-eq0.false) in
    let size : c.frame_size-z.result ≡ frame_size c.args.k (top c.args.k c.args.s) = c.frame_size-z.ensures ∙ ap (frame_size c.args.k) c.top_frame-frame.ensures in
    omega (
      arith,
      size,
      c.stack_pointer-p.ensures,
      top-room c.args.k c.requires c.args.s (length c.args.memory.now) sound deep,
      pointer-limit c.args.k c.requires c.args.s (length c.args.memory.now) sound,
      sound.over,
      sound.length,
      limit-64 c.args.k c.requires,
    )

pub returns-then-load-p : goal.returns-then-load-p
unfolding leave_answer judge load
returns-then-load-p c =
    let acc : judge (state_tests c.args.k c.args.s (length c.args.memory.now)) ≡ Ok tt = sym c.judge_state.ensures ∙ c.in_ok-judge_state.was in
    let sound = state-yes c.args.k c.args.s (length c.args.memory.now) acc in
    let size : c.frame_size-z.result ≡ frame_size c.args.k (top c.args.k c.args.s) = c.frame_size-z.ensures ∙ ap (frame_size c.args.k) c.top_frame-frame.ensures in
    let held : c.load.result ≡ load c.args.memory.now (link_at c.args.k.linkage c.args.k (offset c.args.k c.args.s) (offset c.args.k c.args.s + frame_size c.args.k (top c.args.k c.args.s))) c.args.k.word
    = c.load.ensures ∙ rw (c.link_at-at.ensures, c.frame_size-z.ensures, c.top_frame-frame.ensures, c.stack_pointer-p.ensures) in
    let solid : (top c.args.k c.args.s).leaf ≡ false = ap (λ (f : Frame). f.leaf) (sym c.top_frame-frame.ensures) ∙ c.if-frame.false in
    sym (judge-next (state_tests c.args.k c.args.s (length c.args.memory.now)) (leave_tests c.args.k c.args.s c.args.memory.now) acc ∙ rw (lt-ltb 0 c.args.s.depth (omega (arith, c.if-s-eq0.false)), ne_eqb (load c.args.memory.now (link_at c.args.k.linkage c.args.k (offset c.args.k c.args.s) (offset c.args.k c.args.s + frame_size c.args.k (top c.args.k c.args.s))) c.args.k.word) (stack_pointer c.args.k c.args.s + frame_size c.args.k (top c.args.k c.args.s)) (λ e. omega (arith, held, size, c.stack_pointer-p.ensures, c.if-load-p.true)), solid))

pub returns-in_err-judge_state : goal.returns-in_err-judge_state
unfolding leave_answer
returns-in_err-judge_state c =
    let p = err_from_is_err_and c.from_residual.result c.from_residual.ensures.1 in
    rw (p.1, p.2) (sym (judge-stops (state_tests c.args.k c.args.s (length c.args.memory.now)) (leave_tests c.args.k c.args.s c.args.memory.now) _ (sym c.judge_state.ensures ∙ c.in_err-judge_state.was)))

pub returns : goal.returns
unfolding leave_answer judge load
returns c =
    let acc : judge (state_tests c.args.k c.args.s (length c.args.memory.now)) ≡ Ok tt = sym c.judge_state.ensures ∙ c.in_ok-judge_state.was in
    let sound = state-yes c.args.k c.args.s (length c.args.memory.now) acc in
    let size : c.frame_size-z.result ≡ frame_size c.args.k (top c.args.k c.args.s) = c.frame_size-z.ensures ∙ ap (frame_size c.args.k) c.top_frame-frame.ensures in
    let held : c.load.result ≡ load c.args.memory.now (link_at c.args.k.linkage c.args.k (offset c.args.k c.args.s) (offset c.args.k c.args.s + frame_size c.args.k (top c.args.k c.args.s))) c.args.k.word
    = c.load.ensures ∙ rw (c.link_at-at.ensures, c.frame_size-z.ensures, c.top_frame-frame.ensures, c.stack_pointer-p.ensures) in
    let solid : (top c.args.k c.args.s).leaf ≡ false = ap (λ (f : Frame). f.leaf) (sym c.top_frame-frame.ensures) ∙ c.if-frame.false in
    sym (judge-next (state_tests c.args.k c.args.s (length c.args.memory.now)) (leave_tests c.args.k c.args.s c.args.memory.now) acc ∙ rw (lt-ltb 0 c.args.s.depth (omega (arith, c.if-s-eq0.false)), eq-eqb (load c.args.memory.now (link_at c.args.k.linkage c.args.k (offset c.args.k c.args.s) (offset c.args.k c.args.s + frame_size c.args.k (top c.args.k c.args.s))) c.args.k.word) (stack_pointer c.args.k c.args.s + frame_size c.args.k (top c.args.k c.args.s)) (omega (arith, held, size, c.stack_pointer-p.ensures, c.if-load-p.false)), solid))
