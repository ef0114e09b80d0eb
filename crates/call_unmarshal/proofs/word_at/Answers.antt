-- The only word is a general register or eight bytes of memory; doublewords stand in registers as they are (`words-doublewords`).
use mathlib.Core.Path.{sym, ap, ◌∙◌}
use mathlib.Core.List.{[]}
use Prim.Native.Nat.{◌*◌}
use native.Mathlib.Omega.{arith}
use Rattle.base_words.specs.Numbers.{value_of}
use Rattle.call_slots.specs.Buffers.{buffers, bytes_at}
use Rattle.call_slots.proofs.Doublewords.{words-doublewords}
use Rattle.call_unmarshal.proofs.Parts.{word-registers, word-memory}
use Rattle.call_unmarshal.proofs.word_at.Goals as goal

pub returns-then-general-gt0 : goal.returns-then-general-gt0
unfolding bytes_at
returns-then-general-gt0 c =
    c.load.ensures ∙ ap value_of (word-registers c.args.image.now c.args.area.now (8 * c.args.s.general.first) c.args.s.memory.start c.args.s.general.count c.args.s.memory.length c.requires.1 c.if-general-gt0.true ∙ sym (words-doublewords c.args.s (buffers c.args.image.now c.args.area.now [])))

pub load-requires-2 : goal.load-requires-2
load-requires-2 c =
    omega (arith, c.requires.1, c.requires.0.4 (omega (arith, c.requires.1)))

pub returns : goal.returns
unfolding bytes_at
returns c =
    c.load-2.ensures ∙ ap value_of (word-memory c.args.image.now c.args.area.now (8 * c.args.s.general.first) c.args.s.memory.start c.args.s.general.count c.args.s.memory.length c.requires.1 c.if-general-gt0.false ∙ sym (words-doublewords c.args.s (buffers c.args.image.now c.args.area.now [])))
