-- Through the part that starts where the entry stands.
use mathlib.Core.Path.{ap, ◌∙◌}
use native.Mathlib.Omega.{arith}
use Prim.Native.Nat.{◌-◌, ◌*◌}
use lib.ListN.{length}
use borrow.Rule.Slice.PartMut.{put_mid}
use Rattle.base_words.proofs.Splices.{lent-tail, length_part}
use Rattle.plan_entries.specs.Words.{entry_words}
use Rattle.plan_entries.proofs.keep_entry.Goals as goal

pub overflow_mul-at : goal.overflow_mul-at
overflow_mul-at c = omega arith

pub offset_bounds-kept-at : goal.offset_bounds-kept-at
offset_bounds-kept-at c = omega arith

pub slice_bounds-put_entry-count : goal.slice_bounds-put_entry-count
slice_bounds-put_entry-count c = omega arith

pub slice_bounds-put_entry-start : goal.slice_bounds-put_entry-start
slice_bounds-put_entry-start c = omega arith

pub put_entry-requires : goal.put_entry-requires
put_entry-requires c =
    let at = 13 * c.args.i in
    omega (arith, length_part at (length c.args.kept.now - at) c.args.kept.now (omega arith))

pub returns : goal.returns
returns c =
    let at = 13 * c.args.i in
    ap (put_mid at (length c.args.kept.now - at) c.args.kept.now) c.put_entry.ensures ∙ lent-tail c.args.kept.now at (entry_words c.args.item c.args.size c.args.value c.args.s)
