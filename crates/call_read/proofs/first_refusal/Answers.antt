use borrow.Author.Rules.{rules}
use mathlib.Core.Path.{◌≡◌, refl, sym, ap, ◌∙◌}
use mathlib.Core.Bool.{false}
use Prim.Native.Nat.{◌-◌}
use native.Mathlib.Omega.{arith}
use lib.ListN.{length}
use Rattle.call_slots.specs.Buffers.{buffers}
use Rattle.call_slots.specs.Placements.{placement}
use Rattle.call_slots.proofs.Refusals.{handed_on, err-refused, ok-passed}
use Rattle.call_slots.proofs.Turns.{checking-start, checking-ready, checking-refused, checking-more, checking-end}
use Rattle.call_kept.specs.Helpers.{kept_at}
use Rattle.call_kept.proofs.Rows.{kept-hand, kept-end}
use Rattle.call_unmarshal.specs.Helpers.{InBuffers}
use Rattle.call_read.specs.Read.{argument_answer, arguments_answer}
use Rattle.call_read.specs.Helpers.{asks}
use Rattle.call_read.proofs.Arguments.{nothing-asked}
use Rattle.call_read.proofs.first_refusal.Goals as goal
use Rattle.call_read.proofs.first_refusal.Goals.{then-asks+in_ok-argument_answer, else-asks}
use Rattle.call_slots.specs.Answer.{call_done}

pub loop-i-init : goal.loop-i-init
loop-i-init c = checking-start _ _ _ c.requires.each

pub span_at-s-requires : goal.span_at-s-requires
span_at-s-requires c = omega (arith, c.requires.room, c.loop-i-test.true)

pub type_at-t-requires : goal.type_at-t-requires
type_at-t-requires c = omega (arith, c.requires.room, c.loop-i-test.true)

pub argument_answer-requires : goal.argument_answer-requires
unfolding kept_at
argument_answer-requires c =
    let ready : InBuffers c.args.rules (length c.args.image.now) (length c.args.area.now) (placement c.type_at-t.result c.size_of-n.result c.span_at-s.result) =
    rw (c.size_of-n.ensures, c.type_at-t.ensures, c.span_at-s.ensures) (checking-ready _ _ _ _ (kept_at c.args.convention c.args.kept.now c.loop-i.i) (kept-hand c.args.convention c.args.kept.now c.loop-i.i c.args.count c.loop-i-test.true) c.loop-i.invariant) in
    ready

pub returns-in_err-argument_answer : goal.returns-in_err-argument_answer
unfolding arguments_answer kept_at
returns-in_err-argument_answer c =
    let asked : c.argument_answer.result ≡ argument_answer c.args.rules c.args.base (kept_at c.args.convention c.args.kept.now c.loop-i.i) (buffers c.args.image.now c.args.area.now c.args.copies.now) =
    c.argument_answer.ensures ∙ rw (c.size_of-n.ensures, c.type_at-t.ensures, c.span_at-s.ensures) in
    handed_on _ c.argument_answer.result c.in_err-argument_answer.field-0.0 c.from_residual.ensures.1 c.in_err-argument_answer.was
    ∙ checking-refused _ _ _ _ (kept_at c.args.convention c.args.kept.now c.loop-i.i) (kept-hand c.args.convention c.args.kept.now c.loop-i.i c.args.count c.loop-i-test.true) c.loop-i.invariant _ asked (err-refused _ _ c.in_err-argument_answer.was)

pub loop-i-preserved : goal.loop-i-preserved
unfolding kept_at
loop-i-preserved c =
    let hand = kept_at c.args.convention c.args.kept.now c.loop-i.i in
    let next = kept-hand c.args.convention c.args.kept.now c.loop-i.i c.args.count c.loop-i-test.true in
    elim c.if-asks.branch [
      | then-asks+in_ok-argument_answer w ↦
          let asked : w.argument_answer.result ≡ argument_answer c.args.rules c.args.base hand (buffers c.args.image.now c.args.area.now c.args.copies.now) =
          w.argument_answer.ensures ∙ rw (w.size_of-n.ensures, w.type_at-t.ensures, c.span_at-s.ensures) in
          checking-more _ _ _ _ hand next c.loop-i.invariant _ asked (ok-passed _ _ w.in_ok-argument_answer.was)
      | else-asks w ↦
          let unasked = nothing-asked c.args.rules c.args.base hand (buffers c.args.image.now c.args.area.now c.args.copies.now) (ap asks (sym c.span_at-s.ensures) ∙ sym c.asks.ensures ∙ w.if-asks.false) in
          checking-more _ _ _ _ hand next c.loop-i.invariant call_done unasked refl
    ]

pub returns : goal.returns
unfolding arguments_answer
returns c =
    checking-end _ _ _ _ (kept-end c.args.convention c.args.kept.now c.loop-i.i c.args.count (omega (arith, c.loop-i-test.false))) c.loop-i.invariant
