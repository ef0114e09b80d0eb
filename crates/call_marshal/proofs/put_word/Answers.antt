-- The span has one word: a general register or eight bytes of memory, through the part that starts there.
use mathlib.Core.Path.{ap, ◌∙◌}
use Prim.Native.Nat.{ℕ, ◌-◌, ◌*◌}
use lib.ListN.{length}
use borrow.Rule.Slice.PartMut.{put_mid}
use Rattle.base_words.specs.Numbers.{bytes_of}
use Rattle.base_words.proofs.Splices.{lent-tail}
use Rattle.call_marshal.proofs.Pieces.{word-general, word-memory}
use Rattle.call_marshal.proofs.put_word.Goals as goal

pub returns-then-general-gt0 : goal.returns-then-general-gt0
returns-then-general-gt0 c =
    let at : ℕ = 8 * c.args.s.general.first in
    let w = word-general c.args.image.now c.args.area.now at c.args.s.memory.start c.args.x c.args.s.general.count c.args.s.memory.length c.requires.1 c.if-general-gt0.true in
    (ap (put_mid at (length c.args.image.now - at) c.args.image.now) c.put_number.ensures ∙ lent-tail c.args.image.now at (bytes_of 8 c.args.x) ∙ w.0, w.1)

pub returns : goal.returns
returns c =
    let w = word-memory c.args.image.now c.args.area.now (8 * c.args.s.general.first) c.args.s.memory.start c.args.x c.args.s.general.count c.args.s.memory.length c.requires.1 c.if-general-gt0.false in
    (w.0, ap (put_mid c.args.s.memory.start (length c.args.area.now - c.args.s.memory.start) c.args.area.now) c.put_number-2.ensures ∙ lent-tail c.args.area.now c.args.s.memory.start (bytes_of 8 c.args.x) ∙ w.1)
