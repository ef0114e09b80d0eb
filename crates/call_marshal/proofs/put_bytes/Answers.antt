-- The general registers hold all words, or the first of them and memory the others.
use mathlib.Core.Path.{ap, ◌∙◌}
use mathlib.Core.List.{List, ◌++◌}
use Prim.Native.Nat.{ℕ, ◌+◌, ◌-◌, ◌*◌}
use lib.ListN.{length, replicate}
use borrow.Rule.Slice.PartMut.{put_mid}
use Rattle.base_words.specs.Splice.{part}
use Rattle.base_words.proofs.Splices.{lent-tail}
use Rattle.call_registers.specs.Registers.{spread}
use Rattle.call_marshal.proofs.Pieces.{bytes-general, bytes-both}
use Rattle.call_marshal.proofs.put_bytes.Goals as goal

pub returns-then-n-held : goal.returns-then-n-held
returns-then-n-held c =
    let at : ℕ = 8 * c.args.s.general.first in
    let b = bytes-general c.args.image.now c.args.area.now c.args.v.now at c.args.s.memory.start c.args.word c.args.s.general.count c.args.s.memory.length c.requires.2 c.requires.1 c.requires.0.5 c.if-n-held.true in
    (ap (put_mid at (length c.args.image.now - at) c.args.image.now) c.put_registers.ensures ∙ lent-tail c.args.image.now at (spread c.args.word c.args.s.general.count (c.args.v.now ++ replicate (c.args.word * c.args.s.general.count - length c.args.v.now) 0)) ∙ b.0, b.1)

pub returns : goal.returns
returns c =
    let at : ℕ = 8 * c.args.s.general.first in
    let first : List ℕ = part 0 (c.args.word * c.args.s.general.count - 0) c.args.v.now in
    let b = bytes-both c.args.image.now c.args.area.now c.args.v.now at c.args.s.memory.start c.args.word c.args.s.general.count c.args.s.memory.length c.requires.2 c.requires.1 c.requires.0.5 c.if-n-held.false in (
      ap (put_mid at (length c.args.image.now - at) c.args.image.now) c.put_registers-2.ensures ∙ lent-tail c.args.image.now at (spread c.args.word c.args.s.general.count (first ++ replicate (c.args.word * c.args.s.general.count - length first) 0)) ∙ b.0,
      ap (put_mid c.args.s.memory.start (length c.args.area.now - c.args.s.memory.start) c.args.area.now) c.put_padded.ensures ∙ lent-tail c.args.area.now c.args.s.memory.start (part (c.args.word * c.args.s.general.count) (length c.args.v.now - c.args.word * c.args.s.general.count) c.args.v.now ++ replicate (c.args.s.memory.length - (length c.args.v.now - c.args.word * c.args.s.general.count)) 0) ∙ b.1,
    )
