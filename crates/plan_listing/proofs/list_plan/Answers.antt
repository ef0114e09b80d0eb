-- The first run gives the length, and the second writes where there is room.
use Rattle.std.proofs.Common.{◌≤◌, ◌<◌, length, arith}
use borrow.Author.Tests.{lt-ltb, le-ltb}
use Rattle.base_words.specs.Splice.{splice}
use Rattle.plan_listing.specs.Text.{accepted_text}
use Rattle.plan_listing.proofs.list_plan.Goals as goal

pub returns-then-text-length : goal.returns-then-text-length
returns-then-text-length c =
    let short : length c.args.text.now < length (accepted_text c.args.p.now) = omega (arith, c.put_lines-length.ensures.end) in
    (omega (arith, c.put_lines-length.ensures.end), rw (lt-ltb _ _ short))

pub returns : goal.returns
unfolding splice
returns c =
    let room : length (accepted_text c.args.p.now) ≤ length c.args.text.now = omega (arith, c.put_lines-length.ensures.end) in
    (omega (arith, c.put_lines.ensures.end), rw (le-ltb _ _ room) c.put_lines.ensures.bytes)
