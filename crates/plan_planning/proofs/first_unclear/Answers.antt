use mathlib.Core.Path.{sym, ◌∙◌}
use native.Mathlib.Omega.{arith}
use lib.Seq.{length-take-le}
use Rattle.plan_places.proofs.Bounds.{rules-lawful}
use Rattle.sig_signatures.proofs.Types.{length_types}
use Rattle.plan_plans.proofs.Fold.{reached-roomy}
use Rattle.plan_plans.proofs.Taken.{taken}
use Rattle.plan_plans.proofs.Calls.{none-unclear, clearing-start, clearing-more, clearing-end}
use Rattle.plan_planning.proofs.first_unclear.Goals as goal

pub returns-then-always_clear : goal.returns-then-always_clear
returns-then-always_clear c = sym (none-unclear _ _ (rw c.call_rules_of-rules.ensures at (sym c.always_clear.ensures ∙ c.if-always_clear.true)) _ _ _)

pub loop-i-init : goal.loop-i-init
loop-i-init c = rw (c.start-c.ensures, c.call_rules_of-rules.ensures) (clearing-start _ _ _ _ (rules-lawful c.args.g.convention))

pub unclear_after-unclear-requires : goal.unclear_after-unclear-requires
unclear_after-unclear-requires c =
    let t = taken c.args.g c.loop-i.i c.requires c.loop-i-test.true in
    (reached-roomy _ _ _ _ (omega (arith, t.within, c.requires.few)) c.loop-i.invariant.reached, omega (arith, t.within, c.requires.few))

pub advance-c-requires : goal.advance-c-requires
advance-c-requires c =
    let t = taken c.args.g c.loop-i.i c.requires c.loop-i-test.true in (
      rw c.call_rules_of-rules.ensures (rules-lawful c.args.g.convention),
      reached-roomy _ _ _ _ (omega (arith, t.within, c.requires.few)) c.loop-i.invariant.reached,
      rw c.size_of-size.ensures t.small,
    )

pub loop-i-preserved : goal.loop-i-preserved
loop-i-preserved c =
    let t = taken c.args.g c.loop-i.i c.requires c.loop-i-test.true in
    rw (c.advance-c.ensures, c.unclear_after-unclear.ensures, c.size_of-size.ensures)
    (clearing-more _ _ _ _ _ _ c.loop-i.i _ (rw c.call_rules_of-rules.ensures (rules-lawful c.args.g.convention)) t.among t.small t.next c.loop-i.invariant)

pub returns : goal.returns
returns c =
    let many = length_types c.args.g.count c.args.g.arguments c.requires.room in
    let all = length-take-le c.args.g.count c.args.g.arguments c.requires.room in
    rw (c.start-c.ensures, c.hidden_in-hidden.ensures, c.call_rules_of-rules.ensures) at (clearing-end _ _ _ _ _ _ _ (omega (arith, many, all, c.loop-i-test.false)) c.loop-i.invariant)
