-- A doubleword is the only one of its number; smaller words go one by one.
use mathlib.Core.Path.{subst}
use Prim.Native.Nat.{ℕ}
use Rattle.call_marshal.specs.Helpers.{SpanTakes}
use Rattle.call_marshal.proofs.Pieces.{number-plain}
use Rattle.call_marshal.proofs.put_words.Goals as goal

pub put_word-requires : goal.put_word-requires
put_word-requires c =
    (subst (λ (w : ℕ). SpanTakes w c.args.s c.args.image.now c.args.area.now) c.if-word-eq8.true c.requires.0, c.requires.1.1 c.if-word-eq8.true)

pub returns-then-word-eq8 : goal.returns-then-word-eq8
returns-then-word-eq8 c =
    number-plain _ _ _ _ _ _ _ _ _ _ c.if-word-eq8.true (c.requires.1.1 c.if-word-eq8.true) c.put_word.ensures
