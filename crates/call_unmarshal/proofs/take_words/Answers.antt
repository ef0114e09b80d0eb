-- The bytes stand in general registers, in memory, or in both.
use mathlib.Core.Path.{◌≡◌, sym, ap, ◌∙◌}
use mathlib.Core.List.{List}
use Prim.Native.Nat.{ℕ, ◌-◌, ◌*◌}
use native.Mathlib.Omega.{arith}
use native.Mathlib.Nat.{mul-le-mul_right}
use lib.ListN.{length}
use borrow.Rule.Slice.PartMut.{put_mid}
use Rattle.base_words.specs.Splice.{overlay, splice, part}
use Rattle.base_words.proofs.Splices.{lent-tail, overlay-append, length_part}
use Rattle.call_registers.specs.Registers.{gather}
use Rattle.call_slots.specs.Buffers.{bytes_at}
use Rattle.call_slots.specs.Placements.{words_at}
use Rattle.call_registers.proofs.Registers.{length-gather}
use Rattle.call_unmarshal.proofs.Parts.{own-registers, own-memory, own-both}
use borrow.Author.Rules.{rules}
use Rattle.call_unmarshal.proofs.take_words.Goals as goal

pub overflow_mul-held : goal.overflow_mul-held
overflow_mul-held c = omega (arith, c.requires.0, mul-le-mul_right c.args.s.general.count c.requires.0.1)

pub returns-then-lo-n : goal.returns-then-lo-n
unfolding words_at bytes_at
returns-then-lo-n c =
    let bs : List ℕ = part (8 * c.args.s.general.first) (8 * c.args.s.general.count) c.args.image.now in
    let ws : List ℕ = gather c.args.word c.args.s.general.count bs in
    let size : length bs ≡ 8 * c.args.s.general.count = length_part (8 * c.args.s.general.first) (8 * c.args.s.general.count) c.args.image.now (omega (arith, c.requires.0)) in
    let held : length ws ≡ c.args.word * c.args.s.general.count = length-gather c.args.word c.args.s.general.count bs c.requires.0.1 (omega arith) in
    c.take_registers.ensures ∙ ap (overlay c.args.out.now) (own-registers ws c.args.area.now c.args.s.memory.start c.args.s.memory.length c.args.lo c.args.n (omega (arith, c.if-lo-n.true)))

pub take_part-requires : goal.take_part-requires
take_part-requires c =
    let area = c.requires.0.4 (omega (arith, c.requires.2, c.if-lo-n.false, c.if-held-lo.true)) in
    (omega (arith, area, c.requires.2, c.if-held-lo.true), c.requires.3)

pub returns-then-held-lo : goal.returns-then-held-lo
unfolding words_at bytes_at
returns-then-held-lo c =
    let bs : List ℕ = part (8 * c.args.s.general.first) (8 * c.args.s.general.count) c.args.image.now in
    let ws : List ℕ = gather c.args.word c.args.s.general.count bs in
    let size : length bs ≡ 8 * c.args.s.general.count = length_part (8 * c.args.s.general.first) (8 * c.args.s.general.count) c.args.image.now (omega (arith, c.requires.0)) in
    let held : length ws ≡ c.args.word * c.args.s.general.count = length-gather c.args.word c.args.s.general.count bs c.requires.0.1 (omega arith) in
    let memory = own-memory ws c.args.area.now c.args.s.memory.start c.args.s.memory.length c.args.lo c.args.n (omega (arith, c.if-held-lo.true)) (omega (arith, c.requires.2)) in
    c.take_part.ensures ∙ ap (overlay c.args.out.now) (rw held at memory)

pub take_part-requires-2 : goal.take_part-requires-2
take_part-requires-2 c =
    let area = c.requires.0.4 (omega (arith, c.requires.2, c.if-lo-n.false)) in
    (omega (arith, area, c.requires.2, c.if-held-lo.false), search rules)

pub returns : goal.returns
unfolding words_at bytes_at
returns c =
    let bs : List ℕ = part (8 * c.args.s.general.first) (8 * c.args.s.general.count) c.args.image.now in
    let ws : List ℕ = gather c.args.word c.args.s.general.count bs in
    let size : length bs ≡ 8 * c.args.s.general.count = length_part (8 * c.args.s.general.first) (8 * c.args.s.general.count) c.args.image.now (omega (arith, c.requires.0)) in
    let held : length ws ≡ c.args.word * c.args.s.general.count = length-gather c.args.word c.args.s.general.count bs c.requires.0.1 (omega arith) in
    let first : List ℕ = part c.args.lo (c.args.word * c.args.s.general.count - c.args.lo) ws in
    let second : List ℕ = part c.args.s.memory.start (c.args.n - (c.args.word * c.args.s.general.count - c.args.lo)) c.args.area.now in
    let short : length first ≡ c.args.word * c.args.s.general.count - c.args.lo = length_part c.args.lo (c.args.word * c.args.s.general.count - c.args.lo) ws (omega (arith, c.if-held-lo.false)) in
    let both = own-both ws c.args.area.now c.args.s.memory.start c.args.s.memory.length c.args.lo c.args.n (omega (arith, c.if-held-lo.false)) (omega (arith, c.if-lo-n.false)) (omega (arith, c.requires.2)) in
    ap (put_mid (c.args.word * c.args.s.general.count - c.args.lo) (length c.take_registers-2.new.out - (c.args.word * c.args.s.general.count - c.args.lo)) c.take_registers-2.new.out) c.take_part-2.ensures ∙ lent-tail c.take_registers-2.new.out (c.args.word * c.args.s.general.count - c.args.lo) second
    ∙ ap (λ (t : List ℕ). splice t (c.args.word * c.args.s.general.count - c.args.lo) second) c.take_registers-2.ensures
    ∙ ap (λ (z : ℕ). splice (overlay c.args.out.now first) z second) (sym short) ∙ sym (overlay-append c.args.out.now first second)
    ∙ ap (overlay c.args.out.now) (rw held at both)
