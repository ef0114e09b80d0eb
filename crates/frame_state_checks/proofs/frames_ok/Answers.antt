-- One record less, or one that is refused. Assumes nothing.
use Rattle.std.proofs.Common.{◌≡◌, refl, sym, ap, ◌∙◌, ◌-◌, inl, inr, arith}
use Rattle.frame_rules.specs.declared.Frame.{Frame}
use Rattle.frame_machine.specs.Machine.{ok_frames}
use Rattle.frame_machine.proofs.Coding.{frames_begin, frames-down, frames-stop}
use Rattle.frame_state_checks.proofs.frames_ok.Goals as goal
use Rattle.frame_state_checks.proofs.frames_ok.Goals.{then-not-request_ok-via-then-not-request_ok, then-not-request_ok-via-else-not-request_ok+then-frame_under}

pub loop-d-init : goal.loop-d-init
loop-d-init c = refl

pub returns-then-not-request_ok : goal.returns-then-not-request_ok
returns-then-not-request_ok c =
    frames-stop c.args.k c.args.fs c.loop-d.d (c.loop-d.d - 1) (omega arith)
    (elim c.then-not-request_ok.branch [
      | then-not-request_ok-via-then-not-request_ok w ↦ inl (sym c.request_ok.ensures ∙ w.if-not-request_ok.true)
      | then-not-request_ok-via-else-not-request_ok+then-frame_under w ↦ inr (ap (λ (f : Frame). f.leaf) (sym w.frame_under.ensures) ∙ w.if-frame_under.true)
    ])
    ∙ c.loop-d.invariant

pub loop-d-preserved : goal.loop-d-preserved
loop-d-preserved c =
    let e = sym c.request_ok.ensures ∙ c.if-not-request_ok.false in
    let u = ap (λ (f : Frame). f.leaf) (sym c.frame_under.ensures) ∙ c.if-frame_under.false in
    sym (frames-down c.args.k c.args.fs c.loop-d.d (omega arith) ∙ rw (e, u)) ∙ c.loop-d.invariant

pub returns : goal.returns
returns c =
    let e : 0 ≡ c.loop-d.d = omega arith in
    sym (frames_begin c.args.k c.args.fs) ∙ ap (ok_frames c.args.k c.args.fs) e ∙ c.loop-d.invariant
