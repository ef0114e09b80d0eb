-- Its own bytes in general registers and its value are each put in a buffer, and their first bytes are compared (`agrees-compared`).
use mathlib.Core.Path.{◌≡◌, refl, ap, ap₂, ◌∙◌}
use mathlib.Core.List.{List, []}
use Prim.Native.Nat.{ℕ, ◌+◌, ◌-◌, ◌*◌, ◌≤◌}
use native.Mathlib.Omega.{arith}
use native.Mathlib.Nat.{mul-le-mul_right}
use lib.ListN.{length, take}
use Rattle.base_words.proofs.Splices.{length-overlay}
use Rattle.sig_types.specs.Sizes.{equivalent_of}
use Rattle.plan_places.specs.Step.{word_of}
use Rattle.call_slots.specs.Buffers.{buffers, bytes_at}
use Rattle.call_slots.specs.Forms.{room_of}
use Rattle.call_slots.specs.Placements.{placement}
use Rattle.call_unmarshal.proofs.Arguments.{float-room, own_first}
use Rattle.call_read.specs.Read.{same_bytes}
use Rattle.call_read.proofs.Agree.{own_held_lem, value-most, agrees-compared}
use Rattle.call_read.proofs.floats_agree.Goals as goal

pub overflow_mul-held : goal.overflow_mul-held
overflow_mul-held c = rw c.word_of-word.ensures (omega (arith, (let it : word_of c.args.r * c.args.s.general.count ≤ 256 = omega (arith, c.requires.registers.general, mul-le-mul_right c.args.s.general.count c.requires.registers.held.word.1) in it)))

pub overflow_add-held : goal.overflow_add-held
overflow_add-held c = rw c.word_of-word.ensures (omega (arith, (let it : word_of c.args.r * c.args.s.general.count ≤ 256 = omega (arith, c.requires.registers.general, mul-le-mul_right c.args.s.general.count c.requires.registers.held.word.1) in it)))

pub own_start-lo-requires : goal.own_start-lo-requires
own_start-lo-requires c =
    let all = (let it : word_of c.args.r * c.args.s.general.count + c.args.s.memory.length ≡ room_of c.args.r c.args.n = let own = own_held_lem c.args.r ((placement c.args.t c.args.n c.args.s)) ((buffers c.args.image.now [] [])) c.requires in
    c.requires.registers.held.also (omega arith) in it) in
    rw c.word_of-word.ensures (all, omega (arith, all, c.requires.registers.held.room (c.requires.registers.held.direct c.requires.float)))

pub overflow_sub-held : goal.overflow_sub-held
overflow_sub-held c = rw (c.word_of-word.ensures, c.own_start-lo.ensures) (omega (arith, own_held_lem c.args.r ((placement c.args.t c.args.n c.args.s)) ((buffers c.args.image.now [] [])) c.requires))

pub take_registers-requires : goal.take_registers-requires
take_registers-requires c =
    let least : 1 ≤ word_of c.args.r = omega (arith, c.requires.registers.held.word) in
    let first = own_first c.args.r ((placement c.args.t c.args.n c.args.s)) c.requires.registers.held (c.requires.registers.held.direct c.requires.float) in
    let own = own_held_lem c.args.r ((placement c.args.t c.args.n c.args.s)) ((buffers c.args.image.now [] [])) c.requires in
    let m = rw (c.word_of-word.ensures, c.own_start-lo.ensures) at c.min-m.ensures in
    rw (c.word_of-word.ensures, c.own_start-lo.ensures)
    ((least, c.requires.registers.held.word.1, first, omega (arith, own, m), omega (arith, c.requires.registers.general, c.requires.registers.image)), omega (arith, m, value-most c.args.r ((placement c.args.t c.args.n c.args.s)) ((buffers c.args.image.now [] [])) c.requires))

pub take_float-requires : goal.take_float-requires
take_float-requires c =
    (omega (arith, c.requires.registers.floating, c.requires.registers.image), rw c.equivalent_of.ensures (float-room (equivalent_of c.args.t) c.args.s.floating.count c.args.n 16 (c.requires.registers.held.float c.requires.float) (value-most c.args.r ((placement c.args.t c.args.n c.args.s)) ((buffers c.args.image.now [] [])) c.requires)))

pub same_bytes-requires : goal.same_bytes-requires
same_bytes-requires c =
    let most = value-most c.args.r ((placement c.args.t c.args.n c.args.s)) ((buffers c.args.image.now [] [])) c.requires in
    (omega (arith, c.min-m.ensures, most, ap length c.take_registers.ensures ∙ length-overlay _ _), omega (arith, c.min-m.ensures, most, ap length c.take_float.ensures ∙ length-overlay _ _))

pub returns : goal.returns
unfolding bytes_at
returns c =
    let own = rw (c.word_of-word.ensures, c.own_start-lo.ensures) at c.take_registers.ensures in
    let value = rw c.equivalent_of.ensures at c.take_float.ensures in
    c.same_bytes.ensures
    ∙ ap₂ (λ (x y : List ℕ). same_bytes (take c.min-m.result x) (take c.min-m.result y)) own value
    ∙ agrees-compared c.args.r ((placement c.args.t c.args.n c.args.s)) ((buffers c.args.image.now [] [])) c.requires _ _ c.min-m.result refl refl (rw (c.word_of-word.ensures, c.own_start-lo.ensures) at c.min-m.ensures)
