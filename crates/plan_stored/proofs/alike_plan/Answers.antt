use native.Mathlib.Omega.{arith}
use Prim.Native.Nat.{◌-◌}
use mathlib.Core.Path.{sym, subst}
use lib.ListN.{take}
use Rattle.plan_places.proofs.Bounds.{rules-lawful}
use Rattle.plan_places.specs.Helpers.{LawfulCalls}
use Rattle.plan_stored_items.specs.Places.{result_item}
use Rattle.plan_stored.proofs.Items.{items-next, items-none, plan-start, taken-storable}
use Rattle.plan_stored.proofs.Alike.{abreast-more, abreast-stops, made_more, made-stops, made-end}
use Rattle.plan_stored.proofs.alike_plan.Goals as goal

pub put_header-head-requires : goal.put_header-head-requires
put_header-head-requires c = omega (arith, c.requires.0)

pub returns-then-signature-head : goal.returns-then-signature-head
returns-then-signature-head c = made-stops c.args.stored.now _ _ _ _ 0 _ _ c.put_header-head.ensures.0 (omega (arith, c.put_header-head.ensures.1)) c.alike_from-signature.ensures _ (plan-start c.args.stored.now c.args.s.now c.args.p) (omega arith)

pub overflow_add-signature : goal.overflow_add-signature
overflow_add-signature c = let g = made_more c.args.stored.now _ _ _ _ 0 _ _ c.put_header-head.ensures.0 (omega (arith, c.put_header-head.ensures.1)) c.alike_from-signature.ensures _ (plan-start c.args.stored.now c.args.s.now c.args.p) (omega arith) in omega (arith, g.within, c.well_formed)

pub returns-then-next-signature : goal.returns-then-next-signature
returns-then-next-signature c =
    let reached = c.alike_from-next.ensures in
    let before-it = made_more c.args.stored.now _ _ _ _ 0 _ _ c.put_header-head.ensures.0 (omega (arith, c.put_header-head.ensures.1)) c.alike_from-signature.ensures _ (plan-start c.args.stored.now c.args.s.now c.args.p) (omega arith) in
    abreast-stops c.args.stored.now _ c.args.s.now _ _ _ before-it reached (omega arith)

pub loop-a-init : goal.loop-a-init
loop-a-init c =
    let reached = c.alike_from-next.ensures in
    let before-it = made_more c.args.stored.now _ _ _ _ 0 _ _ c.put_header-head.ensures.0 (omega (arith, c.put_header-head.ensures.1)) c.alike_from-signature.ensures _ (plan-start c.args.stored.now c.args.s.now c.args.p) (omega arith) in
    rw c.call_rules_of-rules.ensures (abreast-more c.args.stored.now _ c.args.s.now _ _ _ before-it reached (omega arith))

pub alike_from-next-requires : goal.alike_from-next-requires
alike_from-next-requires c = let g = made_more c.args.stored.now _ _ _ _ 0 _ _ c.put_header-head.ensures.0 (omega (arith, c.put_header-head.ensures.1)) c.alike_from-signature.ensures _ (plan-start c.args.stored.now c.args.s.now c.args.p) (omega arith) in g.within

pub loop-a-preserved : goal.loop-a-preserved
loop-a-preserved c =
    let next = rw (items-next c.call_rules_of-rules.result (take c.args.p.count c.args.p.spans) c.loop-a.a-index (result_item c.args.p.result) c.loop-a-test.true) at c.loop-a.invariant in
    made_more c.args.stored.now _ _ _ _ _ _ _ c.put_argument-n.ensures.0 (omega (arith, c.put_argument-n.ensures.1, c.loop-a-test.array_long)) c.alike_from-to.ensures _ next (omega arith)

pub put_argument-n-requires : goal.put_argument-n-requires
put_argument-n-requires c = (omega arith, subst LawfulCalls (sym c.call_rules_of-rules.ensures) (rules-lawful c.args.p.convention), taken-storable c.args.p c.loop-a.a-index c.requires.1 c.loop-a-test.true)

pub alike_from-to-requires : goal.alike_from-to-requires
alike_from-to-requires c = c.loop-a.invariant.within

pub overflow_add-next : goal.overflow_add-next
overflow_add-next c = omega (arith, c.loop-a.invariant.within, c.put_argument-n.ensures.1, c.well_formed)

pub returns-then-to-next : goal.returns-then-to-next
returns-then-to-next c =
    let next = rw (items-next c.call_rules_of-rules.result (take c.args.p.count c.args.p.spans) c.loop-a.a-index (result_item c.args.p.result) c.loop-a-test.true) at c.loop-a.invariant in
    made-stops c.args.stored.now _ _ _ _ _ _ _ c.put_argument-n.ensures.0 (omega (arith, c.put_argument-n.ensures.1, c.loop-a-test.array_long)) c.alike_from-to.ensures _ next (omega arith)

pub put_result-n-requires : goal.put_result-n-requires
put_result-n-requires c = (omega arith, c.requires.1.printable.result)

pub alike_from-requires : goal.alike_from-requires
alike_from-requires c = c.loop-a.invariant.within

pub returns : goal.returns
returns c =
    let last = rw (items-none c.call_rules_of-rules.result (take c.args.p.count c.args.p.spans) c.loop-a.a-index (result_item c.args.p.result) (omega arith)) at c.loop-a.invariant in
    made-end c.args.stored.now _ _ _ _ _ _ _ c.put_result-n.ensures.0 (omega (arith, c.put_result-n.ensures.1, c.loop-a-test.array_long)) c.alike_from.ensures last
