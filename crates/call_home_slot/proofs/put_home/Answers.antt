-- A float in its memory form, or the words of general registers as they stand.
use mathlib.Core.Path.{◌≡◌, sym, ap, subst, ◌∙◌}
use mathlib.Core.List.{List, []}
use Prim.Native.Nat.{ℕ, ◌+◌, ◌*◌, ◌^◌, ◌<◌}
use native.Mathlib.Omega.{arith}
use native.Mathlib.Nat.{mul-le-mul_right}
use lib.ListN.{length}
use lib.Seq.{take_all}
use Rattle.base_words.specs.Splice.{overlay, part}
use Rattle.base_words.specs.Numbers.{value_of}
use Rattle.base_words.proofs.Splices.{length_part}
use Rattle.base_words.proofs.Numbers.{value-below, bytes-part}
use Rattle.sig_types.specs.declared.Equivalent.{Equivalent}
use Rattle.plan_places.specs.Step.{rules_of, word_of}
use Rattle.plan_places.proofs.Bounds.{rules-word}
use Rattle.call_registers.specs.Registers.{gather}
use Rattle.call_registers.proofs.Registers.{length-gather}
use Rattle.call_home_slot.proofs.Forms.{homed-float, float-sized, homed-general, float-room, general-room}
use Rattle.call_home_slot.specs.Helpers.{float_home}
use Rattle.call_home_slot.proofs.put_home.Goals as goal

pub home_float-requires : goal.home_float-requires
home_float-requires c =
    (omega (arith, c.requires.registers.floating, c.requires.registers.image), omega (arith, float-room _ _ _ _ [] c.requires), rw c.equivalent_of.ensures (float-sized _ _ _ _ [] c.requires c.if-floating-gt0.true))

pub returns-then-floating-gt0 : goal.returns-then-floating-gt0
returns-then-floating-gt0 c =
    let at : ℕ = 256 + 8 * c.args.s.floating.first in
    let bs : List ℕ = part at (8 * c.args.s.floating.count) c.args.image.now in
    let size : length bs ≡ 8 * c.args.s.floating.count = length_part at (8 * c.args.s.floating.count) c.args.image.now (omega (arith, c.requires.registers.floating, c.requires.registers.image)) in
    let low : value_of bs < 2 ^ (8 * length bs) = value-below bs (bytes-part at (8 * c.args.s.floating.count) c.args.image.now (λ i. (c.type_inv.image i).fits)) in
    let one : c.args.s.floating.count ≡ 1 → value_of bs < 2 ^ 64 = λ e. subst (λ (n : ℕ). value_of bs < 2 ^ (8 * n)) (size ∙ ap (λ (m : ℕ). 8 * m) e) low in
    c.home_float.ensures
    ∙ ap (λ (e : Equivalent). overlay c.args.place.now (float_home c.args.s.home.length (8 * c.args.s.floating.count) e bs)) c.equivalent_of.ensures
    ∙ ap (overlay c.args.place.now) (sym (homed-float _ _ _ _ c.args.image.now c.requires c.if-floating-gt0.true one))

pub overflow_mul-word : goal.overflow_mul-word
overflow_mul-word c = rw ((let it : c.word_bytes-word.result ≡ word_of (rules_of c.args.c) = c.word_bytes-word.ensures ∙ sym (rules-word c.args.c) in it)) (omega (arith, c.requires.registers.general, mul-le-mul_right c.args.s.general.count c.requires.registers.held.word.1))

pub take_registers-requires : goal.take_registers-requires
take_registers-requires c =
    rw ((let it : c.word_bytes-word.result ≡ word_of (rules_of c.args.c) = c.word_bytes-word.ensures ∙ sym (rules-word c.args.c) in it)) ((omega (arith, c.requires.registers.held.word), c.requires.registers.held.word.1, omega (arith, c.requires.registers.held.word), omega arith, omega (arith, c.requires.registers.general, c.requires.registers.image)), omega (arith, general-room _ _ _ _ [] c.requires c.if-floating-gt0.false))

pub returns : goal.returns
returns c =
    let w : ℕ = word_of (rules_of c.args.c) in
    let bs : List ℕ = part (8 * c.args.s.general.first) (8 * c.args.s.general.count) c.args.image.now in
    let size : length bs ≡ 8 * c.args.s.general.count = length_part (8 * c.args.s.general.first) (8 * c.args.s.general.count) c.args.image.now (omega (arith, c.requires.registers.general, c.requires.registers.image)) in
    let put = rw ((let it : c.word_bytes-word.result ≡ word_of (rules_of c.args.c) = c.word_bytes-word.ensures ∙ sym (rules-word c.args.c) in it)) at c.take_registers.ensures in
    put
    ∙ ap (overlay c.args.place.now) (take_all (w * c.args.s.general.count) (gather w c.args.s.general.count bs) (omega (arith, length-gather w c.args.s.general.count bs c.requires.registers.held.word.1 (omega arith))))
    ∙ ap (overlay c.args.place.now) (sym (homed-general _ _ _ _ c.args.image.now c.requires c.if-floating-gt0.false))
