-- `words::store` meets its contract: the number is put at the head of the part that starts at the offset. Assumes nothing.
use mathlib.Core.Path.{ap, ◌∙◌}
use Prim.Native.Nat.{◌-◌}
use lib.ListN.{length}
use borrow.Rule.Slice.PartMut.{put_mid}
use Rattle.base_words.specs.Numbers.{bytes_of}
use Rattle.base_words.proofs.Splices.{lent-tail}
use Rattle.base_words.proofs.store.Goals as goal

pub returns : goal.returns
returns c =
    ap (put_mid c.args.at (length c.args.s.now - c.args.at) c.args.s.now) c.put_number.ensures ∙ lent-tail c.args.s.now c.args.at (bytes_of c.args.n c.args.x)
