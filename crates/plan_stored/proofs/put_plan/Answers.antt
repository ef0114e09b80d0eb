use native.Mathlib.Omega.{arith}
use Prim.Native.Nat.{◌-◌}
use mathlib.Core.Path.{sym, subst}
use lib.ListN.{take}
use lib.Seq.{take_all, length-take-le}
use Rattle.plan_places.proofs.Bounds.{rules-lawful}
use Rattle.plan_places.specs.Helpers.{LawfulCalls}
use Rattle.sig_items.specs.Encode.{item}
use Rattle.plan_text.proofs.Writing.{wrote_nothing, wrote_then}
use Rattle.plan_stored.specs.Stored.{argument_items, plan_bytes}
use Rattle.plan_stored.proofs.Items.{wrote-item, taken-storable}
use Rattle.plan_stored.proofs.put_plan.Goals as goal

pub put_header-head-requires : goal.put_header-head-requires
put_header-head-requires c = omega (arith, c.requires.0)

pub put_bytes-next-requires : goal.put_bytes-next-requires
put_bytes-next-requires c = omega (arith, c.put_header-head.ensures.1, c.requires.0)

pub loop-a-init : goal.loop-a-init
unfolding argument_items
loop-a-init c = (wrote_nothing _ _, omega (arith, c.put_bytes-next.ensures.end, c.put_header-head.ensures.1, c.requires.0))

pub loop-a-preserved : goal.loop-a-preserved
loop-a-preserved c = (
  wrote-item c.call_rules_of-rules.result (take c.args.p.count c.args.p.spans) c.loop-a.a-index c.loop-a-test.true c.loop-a.invariant.0 c.put_argument-next.ensures.0,
  omega (arith, c.put_argument-next.ensures.1, c.loop-a.invariant.1),
)

pub put_argument-next-requires : goal.put_argument-next-requires
put_argument-next-requires c =
    let many = length-take-le c.args.p.count c.args.p.spans c.requires.1.printable.room in (
      omega (arith, c.loop-a.invariant.1, c.loop-a.auto.a-index-end, c.requires.1.printable.few),
      subst LawfulCalls (sym c.call_rules_of-rules.ensures) (rules-lawful c.args.p.convention),
      taken-storable c.args.p c.loop-a.a-index c.requires.1 c.loop-a-test.true,
    )

pub put_result-requires : goal.put_result-requires
put_result-requires c =
    let many = length-take-le c.args.p.count c.args.p.spans c.requires.1.printable.room in
    (omega (arith, c.loop-a.invariant.1, c.loop-a.auto.a-index-end, c.requires.1.printable.few), c.requires.1.printable.result)

pub returns : goal.returns
unfolding plan_bytes item
returns c =
    let all = take_all c.loop-a.a-index (take c.args.p.count c.args.p.spans) (omega arith) in
    wrote_then c.put_header-head.ensures.0 (wrote_then c.put_bytes-next.ensures (wrote_then (rw (all, c.call_rules_of-rules.ensures) at c.loop-a.invariant.0) c.put_result.ensures.0))
