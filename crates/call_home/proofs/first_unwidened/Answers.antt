use Rattle.call_home_slot.specs.Homes.{register_answer}
use Rattle.call_home_slot.proofs.Marked.{answer-marked}
use mathlib.Core.Path.{◌≡◌, sym, ◌∙◌}
use mathlib.Core.List.{◌∷◌}
use Prim.Native.Nat.{suc, ◌-◌}
use native.Mathlib.Omega.{arith}
use lib.ListN.{drop}
use Rattle.call_slots.specs.Arguments.{placements_in, rules_in}
use Rattle.call_slots.proofs.Turns.{argument_at, next-argument, no-argument, checking-start, checking-ready, checking-refused, checking-more, checking-end}
use Rattle.call_slots.proofs.Refusals.{handed_on, err-refused, ok-passed}
use Rattle.call_home.specs.Home.{registers_answer}
use Rattle.call_home.proofs.first_unwidened.Goals as goal

pub loop-i-init : goal.loop-i-init
loop-i-init c = checking-start _ _ _ c.requires.each

pub offset_bounds-g-i : goal.offset_bounds-g-i
offset_bounds-g-i c = omega (arith, c.requires.tables.few)

pub bounds-g-i : goal.bounds-g-i
bounds-g-i c = omega (arith, c.requires.tables.few)

pub offset_bounds-p-i : goal.offset_bounds-p-i
offset_bounds-p-i c = omega (arith, c.requires.tables.few)

pub bounds-p-i : goal.bounds-p-i
bounds-p-i c = omega (arith, c.requires.tables.few)

pub register_answer-requires : goal.register_answer-requires
register_answer-requires c =
    let next = next-argument c.args.g c.args.p c.loop-i.i c.loop-i-test.true c.requires.tables.types c.requires.tables.spans in
    let h = checking-ready _ _ _ _ (argument_at c.args.g c.args.p c.loop-i.i) next c.loop-i.invariant in
    (h.registers.floating, h.registers.image, λ some. (_, h.registers.held.float some))

pub returns-in_err-register_answer : goal.returns-in_err-register_answer
unfolding registers_answer
returns-in_err-register_answer c =
    let at = argument_at c.args.g c.args.p c.loop-i.i in
    let next = next-argument c.args.g c.args.p c.loop-i.i c.loop-i-test.true c.requires.tables.types c.requires.tables.spans in
    let asked : c.register_answer.result ≡ register_answer (rules_in c.args.g) at.ty at.span c.args.image.now =
    c.register_answer.ensures ∙ rw c.call_rules_of-rules.ensures (sym (answer-marked _ _ _ _ _)) in
    handed_on _ c.register_answer.result c.in_err-register_answer.field-0.0 c.from_residual.ensures.1 c.in_err-register_answer.was
    ∙ checking-refused _ _ _ _ at next c.loop-i.invariant _ asked (err-refused _ _ c.in_err-register_answer.was)

pub loop-i-preserved : goal.loop-i-preserved
loop-i-preserved c =
    let at = argument_at c.args.g c.args.p c.loop-i.i in
    let next = next-argument c.args.g c.args.p c.loop-i.i c.loop-i-test.true c.requires.tables.types c.requires.tables.spans in
    let asked : c.register_answer.result ≡ register_answer (rules_in c.args.g) at.ty at.span c.args.image.now =
    c.register_answer.ensures ∙ rw c.call_rules_of-rules.ensures (sym (answer-marked _ _ _ _ _)) in
    checking-more _ _ _ _ at next c.loop-i.invariant _ asked (ok-passed _ _ c.in_ok-register_answer.was)

pub returns : goal.returns
unfolding registers_answer
returns c = checking-end _ _ _ _ (no-argument c.args.g c.args.p c.loop-i.i (omega (arith, c.loop-i-test.false)) c.requires.tables.types) c.loop-i.invariant
