-- Word by word.
use mathlib.Core.Path.{◌≡◌, refl}
use mathlib.Core.Bool.{Bool, true, false, not}
use lib.Dec.{eqb}
use Prim.Native.Nat.{◌+◌, ◌*◌}
use lib.ListN.{get_or}
use Rattle.base_words.specs.Basics.{pick}
use Rattle.call_kept.specs.Helpers.{span_from}
use Rattle.call_kept.proofs.span_at.Goals as goal

flag-kept : (b : Bool) → not b ≡ pick b false true
flag-kept true = refl
flag-kept false = refl

pub returns : goal.returns
unfolding span_from
returns c =
    rw (c.range_from.ensures, c.range_from-2.ensures, flag-kept (eqb (get_or c.args.kept.now (10 * c.args.i + 9) 0) 0))
