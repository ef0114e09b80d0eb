-- By the way that the argument is passed: by a pointer to its copy, or in FPRs and words, as far as its span has any.
use mathlib.Core.Path.{refl, sym, ap, subst, ◌∙◌}
use Prim.Native.Nat.{ℕ, ◌+◌, ◌-◌, ◌*◌, ◌≤◌, ◌<◌}
use native.Mathlib.Omega.{arith}
use lib.ListN.{length}
use borrow.Rule.Slice.PartMut.{put_mid}
use Rattle.base_words.specs.Numbers.{bytes_of}
use Rattle.base_words.proofs.Splices.{lent-tail, length-splice}
use Rattle.plan_places.specs.Step.{word_of}
use Rattle.call_slots.specs.Placements.{placement}
use Rattle.call_marshal.proofs.Arguments.{pointer-alone, argument-direct, argument-words, stands-address, copy-put}
use Rattle.call_marshal.proofs.Pieces.{number-plain}
use Rattle.call_slots.proofs.Limits.{one_address}
use Rattle.call_marshal.proofs.put_argument.Goals as goal

pub put-requires : goal.put-requires
put-requires c =
    omega (arith, c.requires.registers.held.copied c.if-indirect.true, c.requires.copies)

pub put_word-requires : goal.put_word-requires
put_word-requires c =
    let stored : 0 < c.args.s.memory.length → 8 ≤ c.args.s.memory.length =
    subst (λ (w : ℕ). 0 < c.args.s.memory.length → w ≤ c.args.s.memory.length) (c.requires.registers.held.address c.if-indirect.true).0 c.requires.registers.held.stored in
    let none = (pointer-alone c.args.r c.args.base ((placement c.args.t (length c.args.v.now) c.args.s)) c.args.v.now c.args.image.now c.args.area.now c.args.copies.now c.requires.registers.held c.if-indirect.true) in
    ((omega arith, omega arith, c.requires.registers.general, c.requires.registers.image, c.requires.memory, stored), one_address c.args.r ((placement c.args.t (length c.args.v.now) c.args.s)) c.requires.registers.held none c.if-indirect.true)

pub returns-then-indirect : goal.returns-then-indirect
returns-then-indirect c =
    let none = (pointer-alone c.args.r c.args.base ((placement c.args.t (length c.args.v.now) c.args.s)) c.args.v.now c.args.image.now c.args.area.now c.args.copies.now c.requires.registers.held c.if-indirect.true) in
    let put = number-plain _ _ _ _ _ _ _ (word_of c.args.r) _ _ (c.requires.registers.held.address c.if-indirect.true).0 (one_address c.args.r ((placement c.args.t (length c.args.v.now) c.args.s)) c.requires.registers.held none c.if-indirect.true) c.put_word.ensures in
    let copied = ap (put_mid c.args.s.copy.start (length c.args.copies.now - c.args.s.copy.start) c.args.copies.now) c.put.ensures ∙ lent-tail c.args.copies.now c.args.s.copy.start c.args.v.now in
    argument-words c.args.r c.args.base ((placement c.args.t (length c.args.v.now) c.args.s)) c.args.v.now c.args.image.now c.args.area.now c.args.copies.now c.requires.registers.held
    (bytes_of (word_of c.args.r * c.args.s.general.count + c.args.s.memory.length) (c.args.base + c.args.s.copy.start)) _ _ _ none
    (stands-address c.args.r c.args.base ((placement c.args.t (length c.args.v.now) c.args.s)) c.args.v.now c.requires.registers.held none c.if-indirect.true)
    put.0 put.1
    (copied ∙ sym (copy-put ((placement c.args.t (length c.args.v.now) c.args.s)) c.args.v.now c.args.copies.now c.if-indirect.true))

pub put_value-requires : goal.put_value-requires
put_value-requires c =
    let least : 1 ≤ word_of c.args.r = omega (arith, c.requires.registers.held.word) in
    let long = ap length c.put_fprs.ensures ∙ length-splice c.args.image.now _ _ in
    ((least, c.requires.registers.held.word.1, c.requires.registers.general, long ∙ c.requires.registers.image, c.requires.memory, c.requires.registers.held.stored), c.requires.registers.held, c.if-indirect.false)

pub returns : goal.returns
returns c =
    argument-direct c.args.r c.args.base ((placement c.args.t (length c.args.v.now) c.args.s)) c.args.v.now c.args.image.now c.args.area.now c.args.copies.now c.requires.registers.held
    _ _ _ c.if-indirect.false refl c.put_fprs.ensures c.put_value.ensures.0 c.put_value.ensures.1
