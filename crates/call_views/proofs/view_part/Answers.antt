-- Where nothing is refused, the argument's own bytes lie in its home, and this in the area (`Hand`).
use mathlib.Core.Path.{◌≡◌, sym, ◌∙◌}
use native.Mathlib.Omega.{arith}
use Rattle.plan_places.specs.Step.{rules_of}
use Rattle.sig_signatures.proofs.Types.{answer-plannable}
use Rattle.call_slots.specs.Forms.{own_start}
use Rattle.call_slots.proofs.Answered.{plan-same}
use Rattle.call_slots.proofs.Refusals.{not-refused}
use Rattle.call_slots.proofs.Turns.{argument_at}
use Rattle.call_views.proofs.Viewed.{Hand, hand, answer-same, part-refused, part-shown}
use Rattle.call_home_slot.proofs.Homed.{own-homed}
use Rattle.call_views.proofs.view_part.Goals as goal

pub plan_signature-p-requires : goal.plan_signature-p-requires
plan_signature-p-requires c = rw c.read_signature-g.ensures (answer-plannable c.args.sig.now)

pub call_outcome-outcome-requires : goal.call_outcome-outcome-requires
call_outcome-outcome-requires c = c.read_signature-g.ensures

pub returns-then-is_err : goal.returns-then-is_err
returns-then-is_err c =
    let same = plan-same c.args.sig.now _ _ c.read_signature-g.ensures c.plan_signature-p.ensures in
    part-refused c.args.sig.now c.args.have c.args.index _ (answer-same c.args.sig.now _ c.args.index _ _ _ c.read_signature-g.ensures same (rw (c.call_rules_of-rules.ensures, c.call_outcome-outcome.ensures) at c.view_answer-answer.ensures)) (sym c.is_err.ensures.value ∙ c.if-is_err.true)

pub offset_bounds-g-index : goal.offset_bounds-g-index
offset_bounds-g-index c = omega (
  arith,
  ((let it : Hand c.args.sig.now c.args.have c.args.index c.read_signature-g.result c.plan_signature-p.result = hand c.args.sig.now c.args.have c.args.index _ _ c.view_answer-answer.result c.read_signature-g.ensures
      (plan-same c.args.sig.now _ _ c.read_signature-g.ensures c.plan_signature-p.ensures) (rw (c.call_rules_of-rules.ensures, c.call_outcome-outcome.ensures) at c.view_answer-answer.ensures) (not-refused _ (sym c.is_err.ensures.value ∙ c.if-is_err.false)) in it)).small,
)

pub bounds-g-index : goal.bounds-g-index
bounds-g-index c = omega (
  arith,
  ((let it : Hand c.args.sig.now c.args.have c.args.index c.read_signature-g.result c.plan_signature-p.result = hand c.args.sig.now c.args.have c.args.index _ _ c.view_answer-answer.result c.read_signature-g.ensures
      (plan-same c.args.sig.now _ _ c.read_signature-g.ensures c.plan_signature-p.ensures) (rw (c.call_rules_of-rules.ensures, c.call_outcome-outcome.ensures) at c.view_answer-answer.ensures) (not-refused _ (sym c.is_err.ensures.value ∙ c.if-is_err.false)) in it)).small,
)

pub offset_bounds-p-index : goal.offset_bounds-p-index
offset_bounds-p-index c = omega (
  arith,
  ((let it : Hand c.args.sig.now c.args.have c.args.index c.read_signature-g.result c.plan_signature-p.result = hand c.args.sig.now c.args.have c.args.index _ _ c.view_answer-answer.result c.read_signature-g.ensures
      (plan-same c.args.sig.now _ _ c.read_signature-g.ensures c.plan_signature-p.ensures) (rw (c.call_rules_of-rules.ensures, c.call_outcome-outcome.ensures) at c.view_answer-answer.ensures) (not-refused _ (sym c.is_err.ensures.value ∙ c.if-is_err.false)) in it)).small,
)

pub bounds-p-index : goal.bounds-p-index
bounds-p-index c = omega (
  arith,
  ((let it : Hand c.args.sig.now c.args.have c.args.index c.read_signature-g.result c.plan_signature-p.result = hand c.args.sig.now c.args.have c.args.index _ _ c.view_answer-answer.result c.read_signature-g.ensures
      (plan-same c.args.sig.now _ _ c.read_signature-g.ensures c.plan_signature-p.ensures) (rw (c.call_rules_of-rules.ensures, c.call_outcome-outcome.ensures) at c.view_answer-answer.ensures) (not-refused _ (sym c.is_err.ensures.value ∙ c.if-is_err.false)) in it)).small,
)

pub own_start-requires : goal.own_start-requires
own_start-requires c =
    let h = (let it : Hand c.args.sig.now c.args.have c.args.index c.read_signature-g.result c.plan_signature-p.result = hand c.args.sig.now c.args.have c.args.index _ _ c.view_answer-answer.result c.read_signature-g.ensures
    (plan-same c.args.sig.now _ _ c.read_signature-g.ensures c.plan_signature-p.ensures) (rw (c.call_rules_of-rules.ensures, c.call_outcome-outcome.ensures) at c.view_answer-answer.ensures) (not-refused _ (sym c.is_err.ensures.value ∙ c.if-is_err.false)) in it) in
    rw (c.call_rules_of-rules.ensures, c.size_of-n.ensures) (h.homed.room, omega (arith, h.homed.room, h.held.room h.homed.direct))

pub overflow_add-start : goal.overflow_add-start
overflow_add-start c =
    let h = (let it : Hand c.args.sig.now c.args.have c.args.index c.read_signature-g.result c.plan_signature-p.result = hand c.args.sig.now c.args.have c.args.index _ _ c.view_answer-answer.result c.read_signature-g.ensures
    (plan-same c.args.sig.now _ _ c.read_signature-g.ensures c.plan_signature-p.ensures) (rw (c.call_rules_of-rules.ensures, c.call_outcome-outcome.ensures) at c.view_answer-answer.ensures) (not-refused _ (sym c.is_err.ensures.value ∙ c.if-is_err.false)) in it) in
    let o = own-homed _ _ _ h.held h.homed in
    omega (arith, o, (let it : c.own_start.result ≡ own_start (rules_of c.read_signature-g.result.convention) (argument_at c.read_signature-g.result c.plan_signature-p.result c.args.index).ty (argument_at c.read_signature-g.result c.plan_signature-p.result c.args.index).size = c.own_start.ensures ∙ rw (c.call_rules_of-rules.ensures, c.size_of-n.ensures) in it), h.room)

pub returns : goal.returns
returns c =
    let h = (let it : Hand c.args.sig.now c.args.have c.args.index c.read_signature-g.result c.plan_signature-p.result = hand c.args.sig.now c.args.have c.args.index _ _ c.view_answer-answer.result c.read_signature-g.ensures
    (plan-same c.args.sig.now _ _ c.read_signature-g.ensures c.plan_signature-p.ensures) (rw (c.call_rules_of-rules.ensures, c.call_outcome-outcome.ensures) at c.view_answer-answer.ensures) (not-refused _ (sym c.is_err.ensures.value ∙ c.if-is_err.false)) in it) in
    let same = plan-same c.args.sig.now _ _ c.read_signature-g.ensures c.plan_signature-p.ensures in
    part-shown c.args.sig.now c.args.have c.args.index _ _ _ _ _ h c.read_signature-g.ensures
    (answer-same c.args.sig.now _ c.args.index _ _ _ c.read_signature-g.ensures same (rw (c.call_rules_of-rules.ensures, c.call_outcome-outcome.ensures) at c.view_answer-answer.ensures)) ((let it : c.own_start.result ≡ own_start (rules_of c.read_signature-g.result.convention) (argument_at c.read_signature-g.result c.plan_signature-p.result c.args.index).ty (argument_at c.read_signature-g.result c.plan_signature-p.result c.args.index).size = c.own_start.ensures ∙ rw (c.call_rules_of-rules.ensures, c.size_of-n.ensures) in it)) c.size_of-n.ensures
