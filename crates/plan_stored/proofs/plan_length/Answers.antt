use mathlib.Core.List.{◌++◌}
use Rattle.plan_stored_items.specs.Places.{result_item}
use Rattle.plan_places.specs.Helpers.{LawfulCalls}
use mathlib.Core.Path.{sym, subst}
use Prim.Native.Nat.{◌-◌, ◌+◌}
use native.Mathlib.Omega.{arith}
use lib.ListN.{take, length-append}
use lib.Seq.{length-take-le, take_all}
use Rattle.plan_places.proofs.Bounds.{rules-lawful}
use Rattle.plan_places.specs.Step.{rules_of}
use Rattle.sig_items.specs.Encode.{item}
use Rattle.plan_stored.specs.Stored.{argument_items, plan_bytes}
use Rattle.plan_stored.proofs.Items.{length_more, taken-storable}
use Rattle.plan_stored.proofs.plan_length.Goals as goal

pub overflow_add-next : goal.overflow_add-next
overflow_add-next c = omega (arith, c.requires.0)

pub loop-a-init : goal.loop-a-init
unfolding argument_items
loop-a-init c = (omega arith, omega arith)

pub loop-a-preserved : goal.loop-a-preserved
loop-a-preserved c =
    let more = length_more c.call_rules_of-rules.result (take c.args.p.count c.args.p.spans) c.loop-a.a-index c.loop-a-test.true in
    (omega (arith, c.loop-a.invariant.0, c.argument_length-next.ensures.0, more), omega (arith, c.loop-a.invariant.1, c.argument_length-next.ensures.1))

pub argument_length-next-requires : goal.argument_length-next-requires
argument_length-next-requires c = (subst LawfulCalls (sym c.call_rules_of-rules.ensures) (rules-lawful c.args.p.convention), taken-storable c.args.p c.loop-a.a-index c.requires.1 c.loop-a-test.true)

pub overflow_add-next-in-loop-a : goal.overflow_add-next-in-loop-a
overflow_add-next-in-loop-a c =
    let many = length-take-le c.args.p.count c.args.p.spans c.requires.1.printable.room in
    omega (arith, c.loop-a.invariant.1, c.argument_length-next.ensures.1, c.requires.0, c.requires.1.printable.few)

pub result_length-requires : goal.result_length-requires
result_length-requires c = c.requires.1.printable.result

pub overflow_add-result : goal.overflow_add-result
overflow_add-result c =
    let many = length-take-le c.args.p.count c.args.p.spans c.requires.1.printable.room in
    omega (arith, c.loop-a.invariant.1, c.loop-a.auto.a-index-end, c.result_length.ensures.1, c.requires.0, c.requires.1.printable.few)

pub returns : goal.returns
unfolding plan_bytes item
returns c =
    let all = take_all c.loop-a.a-index (take c.args.p.count c.args.p.spans) (omega arith) in
    let items = rw (all, c.call_rules_of-rules.ensures) at c.loop-a.invariant.0 in
    let tail = length-append (argument_items (rules_of c.args.p.convention) (take c.args.p.count c.args.p.spans)) (result_item c.args.p.result) in
    let whole = length-append c.args.s.now (argument_items (rules_of c.args.p.convention) (take c.args.p.count c.args.p.spans) ++ result_item c.args.p.result) in
    omega (arith, items, c.result_length.ensures.0, tail, whole)
