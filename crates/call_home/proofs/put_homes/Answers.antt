use Rattle.call_home_slot.specs.Homes.{homed_bytes}
use Rattle.call_home_slot.specs.Helpers.{Registered}
use Rattle.call_home_slot.proofs.Forms.{registered-at}
use Rattle.call_home_slot.proofs.Marked.{bytes-marked, registered-marked}
use mathlib.Core.Path.{◌≡◌, sym, ap, ◌∙◌}
use mathlib.Core.List.{List, ◌∷◌}
use Prim.Native.Nat.{ℕ, suc, ◌-◌, ◌≤◌}
use native.Mathlib.Omega.{arith}
use lib.ListN.{length, drop}
use borrow.Rule.Slice.PartMut.{put_mid}
use Rattle.base_words.specs.Splice.{overlay, splice, part}
use Rattle.base_words.proofs.Splices.{lent-tail, length_part}
use Rattle.plan_places.specs.Step.{rules_of}
use Rattle.call_slots.specs.Arguments.{placements_in, rules_in}
use Rattle.call_slots.proofs.Turns.{argument_at, next-argument, no-argument}
use Rattle.call_home.proofs.Registers.{homing-start, homing-ready, homing-more, homing-end}
use Rattle.call_home.proofs.put_homes.Goals as goal

pub loop-i-init : goal.loop-i-init
loop-i-init c = homing-start _ _ _ _ _ _ c.requires.0.each

pub offset_bounds-g-i : goal.offset_bounds-g-i
offset_bounds-g-i c = omega (arith, c.requires.0.tables.few)

pub bounds-g-i : goal.bounds-g-i
bounds-g-i c = omega (arith, c.requires.0.tables.few)

pub offset_bounds-p-i : goal.offset_bounds-p-i
offset_bounds-p-i c = omega (arith, c.requires.0.tables.few)

pub bounds-p-i : goal.bounds-p-i
bounds-p-i c = omega (arith, c.requires.0.tables.few)

pub slice_bounds-put_home-count : goal.slice_bounds-put_home-count
slice_bounds-put_home-count c = omega (arith, (let it : ((argument_at c.args.g c.args.p c.loop-i.i)).span.home.start ≤ length c.loop-i.area = omega (arith, ((let it : Registered (rules_in c.args.g) c.args.p.area (length c.args.image.now) ((argument_at c.args.g c.args.p c.loop-i.i)) = homing-ready _ _ _ _ _ _ _ _ ((argument_at c.args.g c.args.p c.loop-i.i)) ((let it : drop c.loop-i.i (placements_in c.args.g c.args.p) ≡ (argument_at c.args.g c.args.p c.loop-i.i) ∷ drop (suc c.loop-i.i) (placements_in c.args.g c.args.p) = next-argument c.args.g c.args.p c.loop-i.i c.loop-i-test.true c.requires.0.tables.types c.requires.0.tables.spans in it)) c.loop-i.invariant in it)).homed.within, c.requires.1, c.loop-i.invariant.same) in it))

pub slice_bounds-put_home-start : goal.slice_bounds-put_home-start
slice_bounds-put_home-start c = omega (arith, (let it : ((argument_at c.args.g c.args.p c.loop-i.i)).span.home.start ≤ length c.loop-i.area = omega (arith, ((let it : Registered (rules_in c.args.g) c.args.p.area (length c.args.image.now) ((argument_at c.args.g c.args.p c.loop-i.i)) = homing-ready _ _ _ _ _ _ _ _ ((argument_at c.args.g c.args.p c.loop-i.i)) ((let it : drop c.loop-i.i (placements_in c.args.g c.args.p) ≡ (argument_at c.args.g c.args.p c.loop-i.i) ∷ drop (suc c.loop-i.i) (placements_in c.args.g c.args.p) = next-argument c.args.g c.args.p c.loop-i.i c.loop-i-test.true c.requires.0.tables.types c.requires.0.tables.spans in it)) c.loop-i.invariant in it)).homed.within, c.requires.1, c.loop-i.invariant.same) in it))

pub put_home-requires : goal.put_home-requires
put_home-requires c =
    let start : ℕ = ((argument_at c.args.g c.args.p c.loop-i.i)).span.home.start in
    let size : length (part start (length c.loop-i.area - start) c.loop-i.area) ≡ length c.loop-i.area - start = length_part start (length c.loop-i.area - start) c.loop-i.area (omega (arith, (let it : ((argument_at c.args.g c.args.p c.loop-i.i)).span.home.start ≤ length c.loop-i.area = omega (arith, ((let it : Registered (rules_in c.args.g) c.args.p.area (length c.args.image.now) ((argument_at c.args.g c.args.p c.loop-i.i)) = homing-ready _ _ _ _ _ _ _ _ ((argument_at c.args.g c.args.p c.loop-i.i)) ((let it : drop c.loop-i.i (placements_in c.args.g c.args.p) ≡ (argument_at c.args.g c.args.p c.loop-i.i) ∷ drop (suc c.loop-i.i) (placements_in c.args.g c.args.p) = next-argument c.args.g c.args.p c.loop-i.i c.loop-i-test.true c.requires.0.tables.types c.requires.0.tables.spans in it)) c.loop-i.invariant in it)).homed.within, c.requires.1, c.loop-i.invariant.same) in it))) in
    registered-at _ _ _ _ _ (omega (arith, size, (let it : ((argument_at c.args.g c.args.p c.loop-i.i)).span.home.start ≤ length c.loop-i.area = omega (arith, ((let it : Registered (rules_in c.args.g) c.args.p.area (length c.args.image.now) ((argument_at c.args.g c.args.p c.loop-i.i)) = homing-ready _ _ _ _ _ _ _ _ ((argument_at c.args.g c.args.p c.loop-i.i)) ((let it : drop c.loop-i.i (placements_in c.args.g c.args.p) ≡ (argument_at c.args.g c.args.p c.loop-i.i) ∷ drop (suc c.loop-i.i) (placements_in c.args.g c.args.p) = next-argument c.args.g c.args.p c.loop-i.i c.loop-i-test.true c.requires.0.tables.types c.requires.0.tables.spans in it)) c.loop-i.invariant in it)).homed.within, c.requires.1, c.loop-i.invariant.same) in it), c.requires.1, c.loop-i.invariant.same))
    (registered-marked c.args.g.ellipsis (rules_of c.args.g.convention) _ _ _ ((let it : Registered (rules_in c.args.g) c.args.p.area (length c.args.image.now) ((argument_at c.args.g c.args.p c.loop-i.i)) = homing-ready _ _ _ _ _ _ _ _ ((argument_at c.args.g c.args.p c.loop-i.i)) ((let it : drop c.loop-i.i (placements_in c.args.g c.args.p) ≡ (argument_at c.args.g c.args.p c.loop-i.i) ∷ drop (suc c.loop-i.i) (placements_in c.args.g c.args.p) = next-argument c.args.g c.args.p c.loop-i.i c.loop-i-test.true c.requires.0.tables.types c.requires.0.tables.spans in it)) c.loop-i.invariant in it)))

pub loop-i-preserved : goal.loop-i-preserved
loop-i-preserved c =
    let start : ℕ = ((argument_at c.args.g c.args.p c.loop-i.i)).span.home.start in
    let x : List ℕ = homed_bytes (rules_in c.args.g) ((argument_at c.args.g c.args.p c.loop-i.i)) c.args.image.now in
    let put = c.put_home.ensures ∙ ap (overlay _) (sym (bytes-marked c.args.g.ellipsis (rules_of c.args.g.convention) ((argument_at c.args.g c.args.p c.loop-i.i)) c.args.image.now)) in
    let e : put_mid start (length c.loop-i.area - start) c.loop-i.area c.put_home.new.place ≡ splice c.loop-i.area start x = ap (put_mid start (length c.loop-i.area - start) c.loop-i.area) put ∙ lent-tail c.loop-i.area start x in
    rw e (homing-more _ _ _ _ _ _ _ _ ((argument_at c.args.g c.args.p c.loop-i.i)) ((let it : drop c.loop-i.i (placements_in c.args.g c.args.p) ≡ (argument_at c.args.g c.args.p c.loop-i.i) ∷ drop (suc c.loop-i.i) (placements_in c.args.g c.args.p) = next-argument c.args.g c.args.p c.loop-i.i c.loop-i-test.true c.requires.0.tables.types c.requires.0.tables.spans in it)) c.loop-i.invariant)

pub shape_of-area : goal.shape_of-area
shape_of-area c = c.loop-i.invariant.same

pub returns : goal.returns
returns c = homing-end _ _ _ _ _ _ _ _ (no-argument c.args.g c.args.p c.loop-i.i (omega (arith, c.loop-i-test.false)) c.requires.0.tables.types) c.loop-i.invariant
