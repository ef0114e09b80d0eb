-- Each turn is a step of the scan: its argument is the next type, and after the last one none is left.
use native.Mathlib.Omega.{arith}
use Rattle.second_parameters.proofs.Turns.{table-whole, few-left, small-here, next-here, gone}
use Rattle.second_slot_scan.specs.Slots.{slots_from, scanned_to}
use Rattle.second_slot_scan.proofs.Turns.{scanning-start, scanning-more, near-roomy}
use Rattle.second_slot_scan.proofs.scan_all.Goals as goal

pub loop-i-init : goal.loop-i-init
loop-i-init c = rw (c.start_of-end.ensures, c.no_parameters-parameters.ensures) (scanning-start _ _ _)

pub slot_for-slot-requires : goal.slot_for-slot-requires
slot_for-slot-requires c =
    let few = few-left _ _ c.requires c.loop-i-test.true in
    (near-roomy _ _ (omega arith) c.loop-i.invariant.near, rw c.size_of.ensures (small-here _ _ _ c.requires c.loop-i-test.true))

pub loop-i-preserved : goal.loop-i-preserved
loop-i-preserved c =
    let few = few-left _ _ c.requires c.loop-i-test.true in
    rw (c.slot_for-slot.ensures, c.size_of.ensures)
    (scanning-more _ _ _ _ _ _ _ few (small-here _ _ _ c.requires c.loop-i-test.true) (next-here _ _ _ c.requires c.loop-i-test.true) c.loop-i.invariant)

pub returns : goal.returns
unfolding slots_from scanned_to
returns c =
    let z = gone _ c.loop-i.i c.requires c.loop-i-test.false in
    let t = table-whole _ _ _ _ (rw z at c.loop-i.invariant.table) in
    let l = rw z at c.loop-i.invariant.last in
    cc
