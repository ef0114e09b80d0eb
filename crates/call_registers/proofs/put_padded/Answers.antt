-- The bytes, and then zeros through the part that starts where they end.
use mathlib.Core.Path.{sym, ap, ◌∙◌}
use mathlib.Core.List.{List}
use Prim.Native.Nat.{ℕ, ◌-◌}
use lib.ListN.{length, replicate}
use borrow.Rule.Slice.PartMut.{put_mid}
use Rattle.base_words.specs.Splice.{splice}
use Rattle.base_words.proofs.Splices.{lent-tail, overlay-append}
use Rattle.call_registers.proofs.put_padded.Goals as goal

pub returns : goal.returns
returns c =
    let zeros : List ℕ = replicate c.args.zeros 0 in
    ap (put_mid (length c.args.v.now) (length c.put.new.s - length c.args.v.now) c.put.new.s) c.put_zeros.ensures ∙ lent-tail c.put.new.s (length c.args.v.now) zeros
    ∙ ap (λ (t : List ℕ). splice t (length c.args.v.now) zeros) c.put.ensures ∙ sym (overlay-append c.args.s.now c.args.v.now zeros)
