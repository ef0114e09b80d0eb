-- By the way that the argument is passed: 14 and then 26, or 13.
use mathlib.Core.Path.{◌≡◌, sym, ap, ◌∙◌}
use Prim.Native.Nat.{◌+◌, ◌*◌, ◌<◌}
use native.Mathlib.Omega.{arith}
use borrow.Author.Tests.{le-ltb}
use Rattle.base_words.specs.Numbers.{value_of}
use Rattle.sig_types.specs.Sizes.{equivalent_of}
use Rattle.call_slots.specs.Buffers.{buffers, bytes_at}
use Rattle.call_slots.specs.Placements.{placement, words_at, fpr_bytes_at}
use Rattle.call_slots.specs.Refusals.{float_answer}
use Rattle.call_read.specs.Read.{own_held, agrees, agree_answer, argument_answer}
use Rattle.call_slots.proofs.Limits.{answer-first, one_address}
use Rattle.call_slots.proofs.Refusals.{handed_on, err-refused, ok-passed, ok-done}
use Rattle.call_read.proofs.Arguments.{argument-float, argument-unwidened, argument-compared}
use Rattle.call_read.proofs.argument_answer.Goals as goal

pub returns-then-general-eq0 : goal.returns-then-general-eq0
unfolding bytes_at
returns-then-general-eq0 c =
    let asked : c.float_answer.result ≡ float_answer c.args.r (equivalent_of c.args.t) (value_of (fpr_bytes_at c.args.s (buffers c.args.image.now c.args.area.now c.args.copies.now))) =
    c.float_answer.ensures
    ∙ rw (c.equivalent_of.ensures, c.load-x.ensures)
    (answer-first c.args.r (equivalent_of c.args.t) c.args.s.floating.count c.args.n (256 + 8 * c.args.s.floating.first) c.args.image.now (c.requires.registers.held.float c.if-floating-gt0.true)) in
    sym (ok-done _ _ c.in_ok-float_answer.was)
    ∙ argument-float c.args.r c.args.base ((placement c.args.t c.args.n c.args.s)) ((buffers c.args.image.now c.args.area.now c.args.copies.now)) c.if-floating-gt0.true _ asked c.if-general-eq0.true

pub returns-in_err-float_answer : goal.returns-in_err-float_answer
unfolding bytes_at
returns-in_err-float_answer c =
    let asked : c.float_answer.result ≡ float_answer c.args.r (equivalent_of c.args.t) (value_of (fpr_bytes_at c.args.s (buffers c.args.image.now c.args.area.now c.args.copies.now))) =
    c.float_answer.ensures
    ∙ rw (c.equivalent_of.ensures, c.load-x.ensures)
    (answer-first c.args.r (equivalent_of c.args.t) c.args.s.floating.count c.args.n (256 + 8 * c.args.s.floating.first) c.args.image.now (c.requires.registers.held.float c.if-floating-gt0.true)) in
    handed_on _ c.float_answer.result c.in_err-float_answer.field-0.0 c.from_residual.ensures.1 c.in_err-float_answer.was
    ∙ argument-unwidened c.args.r c.args.base ((placement c.args.t c.args.n c.args.s)) ((buffers c.args.image.now c.args.area.now c.args.copies.now)) c.if-floating-gt0.true _ asked (err-refused _ _ c.in_err-float_answer.was)

pub floats_agree-requires : goal.floats_agree-requires
unfolding bytes_at
floats_agree-requires c =
    let asked : c.float_answer.result ≡ float_answer c.args.r (equivalent_of c.args.t) (value_of (fpr_bytes_at c.args.s (buffers c.args.image.now c.args.area.now c.args.copies.now))) =
    c.float_answer.ensures
    ∙ rw (c.equivalent_of.ensures, c.load-x.ensures)
    (answer-first c.args.r (equivalent_of c.args.t) c.args.s.floating.count c.args.n (256 + 8 * c.args.s.floating.first) c.args.image.now (c.requires.registers.held.float c.if-floating-gt0.true)) in
    let some : 0 < c.args.s.general.count = omega (arith, c.if-general-eq0.false) in
    record {
      registers = c.requires.registers;
      float = c.if-floating-gt0.true;
      also = some;
      exact = sym asked ∙ ok-done _ _ c.in_ok-float_answer.was;
    }

pub returns-then-floating-gt0 : goal.returns-then-floating-gt0
unfolding agrees own_held bytes_at
returns-then-floating-gt0 c =
    let asked : c.float_answer.result ≡ float_answer c.args.r (equivalent_of c.args.t) (value_of (fpr_bytes_at c.args.s (buffers c.args.image.now c.args.area.now c.args.copies.now))) =
    c.float_answer.ensures
    ∙ rw (c.equivalent_of.ensures, c.load-x.ensures)
    (answer-first c.args.r (equivalent_of c.args.t) c.args.s.floating.count c.args.n (256 + 8 * c.args.s.floating.first) c.args.image.now (c.requires.registers.held.float c.if-floating-gt0.true)) in
    argument-compared c.args.r c.args.base ((placement c.args.t c.args.n c.args.s)) ((buffers c.args.image.now c.args.area.now c.args.copies.now)) c.if-floating-gt0.true _ asked _ (ok-passed _ _ c.in_ok-float_answer.was)
    (c.agree_answer.ensures ∙ ap agree_answer c.floats_agree.ensures)

pub word_at-address-requires : goal.word_at-address-requires
word_at-address-requires c =
    ((omega arith, omega arith, c.requires.registers.general, c.requires.registers.image, c.requires.memory), one_address c.args.r ((placement c.args.t c.args.n c.args.s)) c.requires.registers.held c.if-floating-gt0.false c.if-indirect.true)

pub returns-then-indirect : goal.returns-then-indirect
unfolding argument_answer words_at bytes_at
returns-then-indirect c = simp (le-ltb _ _ c.if-floating-gt0.false) (rw c.if-indirect.true (c.copy_answer.ensures ∙ rw (c.in_copies.ensures, c.word_at-address.ensures, (c.requires.registers.held.address c.if-indirect.true).0)))

pub returns : goal.returns
unfolding argument_answer
returns c = simp (le-ltb _ _ c.if-floating-gt0.false, c.if-indirect.false)
