-- The value's bytes are loaded as a number and extended by their sign or by zeros.
use mathlib.Core.Path.{◌≡◌, refl, sym, ap, ◌∙◌}
use lib.ListN.{length}
use Rattle.base_words.specs.Numbers.{value_of, sign_extended, zero_extended}
use Rattle.base_words.proofs.Splices.{part-whole}
use Rattle.call_slots.specs.Forms.{is_signed, extended}
use Rattle.call_slots.proofs.value_word.Goals as goal

pub returns-then-is_signed : goal.returns-then-is_signed
unfolding extended
returns-then-is_signed c =
    let s : is_signed c.args.t ≡ _ = sym c.is_signed.ensures ∙ c.if-is_signed.true in
    c.sign_extend.ensures ∙ ap (sign_extended (length c.args.v.now)) (c.load-x.ensures ∙ ap value_of (part-whole (length c.args.v.now) c.args.v.now refl)) ∙ rw s

pub returns-else-is_signed : goal.returns-else-is_signed
unfolding extended
returns-else-is_signed c =
    let s : is_signed c.args.t ≡ _ = sym c.is_signed.ensures ∙ c.if-is_signed.false in
    c.zero_extend.ensures ∙ ap (zero_extended (length c.args.v.now)) (c.load-x.ensures ∙ ap value_of (part-whole (length c.args.v.now) c.args.v.now refl)) ∙ rw s
