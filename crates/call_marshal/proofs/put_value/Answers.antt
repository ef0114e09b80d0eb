-- No words, words from their head on, or their end.
use mathlib.Core.Path.{sym, ap, ◌∙◌}
use mathlib.Core.Bool.{true, false}
use mathlib.Core.List.{List}
use Prim.Native.Nat.{ℕ, ◌+◌, ◌*◌}
use native.Mathlib.Omega.{arith}
use lib.ListN.{length}
use Rattle.base_words.specs.Splice.{splice, part}
use Rattle.base_words.specs.Numbers.{bytes_of}
use Rattle.plan_places.specs.Step.{word_of}
use Rattle.call_registers.specs.Registers.{spread}
use Rattle.call_slots.specs.Placements.{placement}
use Rattle.call_slots.specs.Forms.{starts_at_head}
use Rattle.call_marshal.proofs.Arguments.{home-head, home-end, number_fits, words-none, words-some}
use Rattle.call_marshal.proofs.put_value.Goals as goal

pub returns-then-no_words : goal.returns-then-no_words
returns-then-no_words c =
    words-none c.args.image.now c.args.area.now _ (8 * c.args.s.general.first) c.args.s.memory.start (word_of c.args.r) c.args.s.general.count c.args.s.memory.length
    (sym c.no_words.ensures ∙ c.if-no_words.true)

pub put_bytes-requires : goal.put_bytes-requires
put_bytes-requires c =
    let room = c.requires.1.also (words-some (word_of c.args.r) c.args.s.general.count c.args.s.memory.length c.requires.0.0 (sym c.no_words.ensures ∙ c.if-no_words.false)) in
    let f = c.requires.1.room c.requires.2 in
    rw c.word_of-word.ensures (c.requires.0, omega (arith, room, f), omega (arith, room, f))

pub returns-then-starts_at_head : goal.returns-then-starts_at_head
returns-then-starts_at_head c =
    let w : ℕ = word_of c.args.r in
    let room = c.requires.1.also (words-some (word_of c.args.r) c.args.s.general.count c.args.s.memory.length c.requires.0.0 (sym c.no_words.ensures ∙ c.if-no_words.false)) in
    let same = home-head c.args.r c.args.t c.args.v.now _ (sym c.starts_at_head.ensures ∙ c.if-starts_at_head.true) room in
    let put = rw c.word_of-word.ensures at c.put_bytes.ensures in (
      put.0 ∙ ap (λ (bs : List ℕ). splice c.args.image.now (8 * c.args.s.general.first) (spread w c.args.s.general.count bs)) same,
      put.1 ∙ ap (λ (bs : List ℕ). splice c.args.area.now c.args.s.memory.start (part (w * c.args.s.general.count) c.args.s.memory.length bs)) same,
    )

pub value_word-requires : goal.value_word-requires
value_word-requires c =
    c.requires.1.small (sym c.starts_at_head.ensures ∙ c.if-starts_at_head.false) c.requires.2

pub put_words-requires : goal.put_words-requires
put_words-requires c =
    rw c.word_of-word.ensures
    (c.requires.0, number_fits c.args.r (placement c.args.t (length c.args.v.now) c.args.s) c.requires.1 c.requires.2 (sym c.starts_at_head.ensures ∙ c.if-starts_at_head.false) (words-some (word_of c.args.r) c.args.s.general.count c.args.s.memory.length c.requires.0.0 (sym c.no_words.ensures ∙ c.if-no_words.false)))

pub returns : goal.returns
returns c =
    let w : ℕ = word_of c.args.r in
    let room = c.requires.1.also (words-some (word_of c.args.r) c.args.s.general.count c.args.s.memory.length c.requires.0.0 (sym c.no_words.ensures ∙ c.if-no_words.false)) in
    let same = ap (bytes_of (w * c.args.s.general.count + c.args.s.memory.length)) c.value_word.ensures ∙ home-end c.args.r c.args.t c.args.v.now _ (sym c.starts_at_head.ensures ∙ c.if-starts_at_head.false) room in
    let put = rw c.word_of-word.ensures at c.put_words.ensures in (
      put.0 ∙ ap (λ (bs : List ℕ). splice c.args.image.now (8 * c.args.s.general.first) (spread w c.args.s.general.count bs)) same,
      put.1 ∙ ap (λ (bs : List ℕ). splice c.args.area.now c.args.s.memory.start (part (w * c.args.s.general.count) c.args.s.memory.length bs)) same,
    )
