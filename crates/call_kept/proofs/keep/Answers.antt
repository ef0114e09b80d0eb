-- Through the part that starts where the row stands.
use mathlib.Core.Path.{ap, ◌∙◌}
use Prim.Native.Nat.{◌-◌, ◌*◌}
use lib.ListN.{length}
use borrow.Rule.Slice.PartMut.{put_mid}
use Rattle.base_words.proofs.Splices.{lent-tail}
use Rattle.call_kept.specs.Helpers.{row_of}
use Rattle.call_kept.proofs.keep.Goals as goal

pub returns : goal.returns
returns c =
    let at = 10 * c.args.i in
    ap (put_mid at (length c.args.kept.now - at) c.args.kept.now) c.put_row.ensures ∙ lent-tail c.args.kept.now at (row_of c.args.t c.args.s)
