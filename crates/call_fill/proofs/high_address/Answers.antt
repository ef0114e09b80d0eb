-- An address is too high where it is more than its lowest bytes.
use mathlib.Core.Path.{sym, ap, ◌∙◌}
use lib.Dec.{ltb}
use Prim.Native.Nat.{ℕ}
use mathlib.Core.Bool.{Bool}
use native.Mathlib.Omega.{arith}
use Rattle.base_words.specs.Numbers.{zero_extended}
use Rattle.base_words.proofs.Numbers.{zero_extended-less}
use Rattle.base_conventions.specs.Numbers.{word_bytes}
use Rattle.base_conventions.proofs.Laws.{word-bounds}
use Rattle.call_fill.specs.Fill.{high_address}
use Rattle.call_fill.specs.Helpers.{address_places}
use Rattle.call_fill.proofs.high_address.Goals as goal

pub zero_extend-requires : goal.zero_extend-requires
zero_extend-requires c = let b = word-bounds c.args.c in omega (arith, b, c.word_bytes.ensures)

pub returns-then-hidden : goal.returns-then-hidden
returns-then-hidden c =
    ap (λ (y : ℕ). ltb y c.args.address) (c.zero_extend.ensures ∙ ap (λ (w : ℕ). zero_extended w c.args.address) c.word_bytes.ensures) ∙ zero_extended-less (word_bytes c.args.c) c.args.address
    ∙ sym (ap (λ (b : Bool). high_address (word_bytes c.args.c) (address_places c.args.c b) c.args.address) c.if-hidden.true)
