-- By the number's range, and the fields of a struct.
use Prim.Native.Nat.{◌≤◌, ◌<◌}
use native.Mathlib.Omega.{arith}
use borrow.Author.Tests.{lt-ltb, le-ltb}
use Rattle.call_kept.specs.Helpers.{type_from}
use Rattle.call_kept.proofs.type_from.Goals as goal

pub returns-in-0-to-15 : goal.returns-in-0-to-15
unfolding type_from
returns-in-0-to-15 c =
    let low : c.args.x < 16 = omega arith in
    rw (lt-ltb _ 16 low, c.kind_from.ensures)

pub returns-in-16-to-31 : goal.returns-in-16-to-31
unfolding type_from
returns-in-16-to-31 c =
    let over : 16 ≤ c.args.x = omega arith in
    let low : c.args.x < 32 = omega arith in
    rw (le-ltb _ 16 over, lt-ltb _ 32 low, c.format_from.ensures)

pub returns-in_default : goal.returns-in_default
unfolding type_from
returns-in_default c =
    let over : 16 ≤ c.args.x = omega arith in
    let more : 32 ≤ c.args.x = omega arith in
    rw (le-ltb _ 16 over, le-ltb _ 32 more, c.equivalent_from.ensures)
