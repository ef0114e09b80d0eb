-- The part that is viewed lies in the area.
use Prim.Native.Nat.{◌+◌, ◌≤◌}
use native.Mathlib.Omega.{arith}
use lib.ListN.{length}
use Rattle.call_views.proofs.Viewed.{part-within, part-view}
use Rattle.call_views.proofs.view.Goals as goal

pub overflow_add-end : goal.overflow_add-end
overflow_add-end c = omega (arith, (let it : c.view_part-p.result.start + c.view_part-p.result.length ≤ length c.args.area.now = rw c.view_part-p.ensures (part-within c.args.sig.now _ c.args.index) in it))

pub slice_bounds-result-end : goal.slice_bounds-result-end
slice_bounds-result-end c = omega (arith, (let it : c.view_part-p.result.start + c.view_part-p.result.length ≤ length c.args.area.now = rw c.view_part-p.ensures (part-within c.args.sig.now _ c.args.index) in it))

pub returns : goal.returns
returns c =
    part-view c.args.sig.now c.args.area.now c.args.index _ c.view_part-p.ensures
