-- Zeros above the word, and then the word through the part that starts below them.
use mathlib.Core.Path.{sym, ap, ◌∙◌}
use mathlib.Core.List.{List, ◌++◌}
use Prim.Native.Nat.{ℕ, ◌-◌}
use lib.ListN.{length, replicate, length-replicate}
use borrow.Rule.Slice.PartMut.{put_mid}
use Rattle.base_words.specs.Splice.{overlay, splice}
use Rattle.base_words.proofs.Splices.{lent-tail, overlay-append}
use Rattle.call_registers.proofs.put_register.Goals as goal

pub returns : goal.returns
returns c =
    let above : ℕ = 8 - c.args.word in
    let bs : List ℕ = c.args.v.now ++ replicate (c.args.word - length c.args.v.now) 0 in
    let zeros : List ℕ = replicate above 0 in
    ap (put_mid above (length c.put_zeros.new.s - above) c.put_zeros.new.s) c.put_padded.ensures ∙ lent-tail c.put_zeros.new.s above bs
    ∙ ap (λ (t : List ℕ). splice t above bs) c.put_zeros.ensures
    ∙ ap (λ (n : ℕ). splice (overlay c.args.s.now zeros) n bs) (sym (length-replicate {A = ℕ} above 0))
    ∙ sym (overlay-append c.args.s.now zeros bs)
