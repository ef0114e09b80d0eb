-- By the way that the argument is passed; a copy lies inside, since it was not refused.
use mathlib.Core.Path.{◌≡◌, sym, ap, ◌∙◌}
use mathlib.Core.Bool.{true}
use Prim.Native.Nat.{ℕ, ◌-◌, ◌≤◌}
use native.Mathlib.Omega.{arith}
use native.Mathlib.Nat.{mul-le-mul_right}
use borrow.Author.Tests.{lt-ltb, le-ltb}
use lib.ListN.{length}
use Rattle.base_words.specs.Splice.{overlay, part}
use Rattle.sig_types.specs.Sizes.{equivalent_of}
use Rattle.plan_places.specs.Step.{word_of}
use Rattle.call_slots.specs.Buffers.{buffers, bytes_at}
use Rattle.call_slots.specs.Forms.{float_value}
use Rattle.call_slots.specs.Placements.{placement, words_at, address_at, words_value, value_at}
use Rattle.call_slots.proofs.Limits.{one_address}
use Rattle.call_unmarshal.proofs.Arguments.{float-room, own-within, own_first}
use Rattle.call_unmarshal.proofs.take_argument.Goals as goal

pub take_float-requires : goal.take_float-requires
take_float-requires c =
    (omega (arith, c.requires.0.ready), rw c.equivalent_of.ensures (float-room (equivalent_of c.args.t) c.args.s.floating.count c.args.n (length c.args.out.now) (c.requires.0.ready.registers.held.float c.if-fpr-gt0.true) c.requires.1))

pub returns-then-fpr-gt0 : goal.returns-then-fpr-gt0
unfolding value_at float_value bytes_at
returns-then-fpr-gt0 c =
    simp (lt-ltb 0 c.args.s.floating.count (omega (arith, c.if-fpr-gt0.true))) (c.take_float.ensures ∙ rw c.equivalent_of.ensures)

pub word_at-requires : goal.word_at-requires
word_at-requires c =
    ((omega arith, omega arith, c.requires.0.ready.registers.general, c.requires.0.ready.registers.image, c.requires.0.ready.memory), one_address c.args.r ((placement c.args.t c.args.n c.args.s)) c.requires.0.ready.registers.held c.if-fpr-gt0.false c.if-indirect.true)

pub overflow_sub-from : goal.overflow_sub-from
unfolding bytes_at words_at
overflow_sub-from c =
    let h = c.requires.0.inside c.if-fpr-gt0.false c.if-indirect.true in
    let e = (let it : c.word_at.result ≡ address_at (word_of c.args.r) c.args.s ((buffers c.args.image.now c.args.area.now c.args.copies.now)) = c.word_at.ensures ∙ ap (λ (w : ℕ). address_at w c.args.s ((buffers c.args.image.now c.args.area.now c.args.copies.now))) (sym (c.requires.0.ready.registers.held.address c.if-indirect.true).0) in it) in
    omega (arith, h.0, e)

pub take_part-requires : goal.take_part-requires
unfolding bytes_at words_at
take_part-requires c =
    let h = c.requires.0.inside c.if-fpr-gt0.false c.if-indirect.true in
    let e = (let it : c.word_at.result ≡ address_at (word_of c.args.r) c.args.s ((buffers c.args.image.now c.args.area.now c.args.copies.now)) = c.word_at.ensures ∙ ap (λ (w : ℕ). address_at w c.args.s ((buffers c.args.image.now c.args.area.now c.args.copies.now))) (sym (c.requires.0.ready.registers.held.address c.if-indirect.true).0) in it) in
    (omega (arith, h.1, e), c.requires.1)

pub returns-then-indirect : goal.returns-then-indirect
unfolding value_at words_value bytes_at words_at
returns-then-indirect c =
    simp (le-ltb _ _ c.if-fpr-gt0.false, c.if-indirect.true)
    (c.take_part.ensures
    ∙ ap (λ (x : ℕ). overlay c.args.out.now (part (x - c.args.base) c.args.n c.args.copies.now)) ((let it : c.word_at.result ≡ address_at (word_of c.args.r) c.args.s ((buffers c.args.image.now c.args.area.now c.args.copies.now)) = c.word_at.ensures ∙ ap (λ (w : ℕ). address_at w c.args.s ((buffers c.args.image.now c.args.area.now c.args.copies.now))) (sym (c.requires.0.ready.registers.held.address c.if-indirect.true).0) in it)))

pub overflow_mul-room : goal.overflow_mul-room
overflow_mul-room c = rw c.word_of-word.ensures (omega (arith, c.requires.0.ready.registers.general, mul-le-mul_right c.args.s.general.count c.requires.0.ready.registers.held.word.1))

pub overflow_add-room : goal.overflow_add-room
overflow_add-room c = rw c.word_of-word.ensures (omega (arith, c.requires.0.ready.registers.general, mul-le-mul_right c.args.s.general.count c.requires.0.ready.registers.held.word.1))

pub own_start-requires : goal.own_start-requires
own_start-requires c =
    let words = c.requires.0.ready.registers.held.words (omega (arith, c.if-fpr-gt0.false)) in
    rw c.word_of-word.ensures (words, omega (arith, words, c.requires.0.ready.registers.held.room c.if-indirect.false))

pub take_words-requires : goal.take_words-requires
take_words-requires c =
    let own = own-within c.args.r c.args.base ((placement c.args.t c.args.n c.args.s)) ((buffers c.args.image.now c.args.area.now c.args.copies.now)) c.requires.0 c.if-fpr-gt0.false c.if-indirect.false in
    let first = own_first c.args.r ((placement c.args.t c.args.n c.args.s)) c.requires.0.ready.registers.held c.if-indirect.false in
    rw (c.word_of-word.ensures, c.own_start.ensures)
    (((let it : 1 ≤ word_of c.args.r = omega (arith, c.requires.0.ready.registers.held.word) in it), c.requires.0.ready.registers.held.word.1, c.requires.0.ready.registers.general, c.requires.0.ready.registers.image, c.requires.0.ready.memory), first, own, c.requires.1)

pub returns : goal.returns
unfolding value_at words_value words_at bytes_at
returns c =
    simp (le-ltb _ _ c.if-fpr-gt0.false, c.if-indirect.false) (rw (c.word_of-word.ensures, c.own_start.ensures) at c.take_words.ensures)
