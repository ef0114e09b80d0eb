use mathlib.Core.Path.{◌≡◌, subst}
use Prim.Native.Nat.{ℕ, ◌+◌, ◌-◌}
use Rattle.plan_text.proofs.Writing.{wrote-length}
use Rattle.plan_stored_items.proofs.Laws.{Going, going_start, going_more, going_end}
use native.Mathlib.Omega.{arith}
use Rattle.plan_stored_items.proofs.put_places.Goals as goal

pub loop-i-init : goal.loop-i-init
loop-i-init c =
    let all : c.args.q.count ≡ c.args.q.count - 0 = omega arith in
    subst (λ (n : ℕ). Going c.args.q c.args.bytes.now c.args.bytes.now c.args.at c.args.at c.args.q.number c.args.q.offset n) all (going_start _ _ _ c.requires.1)

pub overflow_cast-p : goal.overflow_cast-p
overflow_cast-p c = omega (arith, c.loop-i.invariant.numbers)

pub overflow_cast-p-in-loop-i : goal.overflow_cast-p-in-loop-i
overflow_cast-p-in-loop-i c = omega (arith, c.loop-i.invariant.offsets)

pub put_place-next-requires : goal.put_place-next-requires
put_place-next-requires c = omega (arith, c.loop-i.invariant.end, c.requires.1.numbers)

pub overflow_add-number : goal.overflow_add-number
overflow_add-number c = omega (arith, c.loop-i.invariant.numbers, c.requires.1.on)

pub overflow_add-offset : goal.overflow_add-offset
overflow_add-offset c = omega (arith, c.loop-i.invariant.offsets, c.requires.1.by)

pub loop-i-preserved : goal.loop-i-preserved
loop-i-preserved c =
    let one : c.args.q.count - c.loop-i.i - 1 ≡ c.args.q.count - (c.loop-i.i + 1) = omega arith in
    subst (λ (n : ℕ). Going c.args.q c.args.bytes.now c.put_place-next.new.bytes c.args.at c.put_place-next.result (c.loop-i.number + c.args.q.on) (c.loop-i.offset + c.args.q.by) n) one
    (going_more _ _ _ _ _ _ _ _ _ _ c.requires.1 (omega arith) c.loop-i.invariant c.put_place-next.ensures.0 c.put_place-next.ensures.1)

pub shape_of-bytes : goal.shape_of-bytes
shape_of-bytes c = wrote-length c.loop-i.invariant.wrote

pub returns : goal.returns
returns c = going_end _ _ _ _ _ _ _ _ (omega arith) c.loop-i.invariant
