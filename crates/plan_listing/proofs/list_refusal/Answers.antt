-- The first run gives the length, and the second writes where there is room.
use Rattle.std.proofs.Common.{◌≤◌, ◌<◌, length, arith}
use borrow.Author.Tests.{lt-ltb, le-ltb}
use Rattle.base_words.specs.Splice.{splice}
use Rattle.plan_listing.specs.Text.{refusal_text}
use Rattle.plan_listing.proofs.list_refusal.Goals as goal

pub returns-then-text-line : goal.returns-then-text-line
returns-then-text-line c =
    let short : length c.args.text.now < length (refusal_text c.args.fault) = omega (arith, c.put_refusal-line.ensures.end) in
    (omega (arith, c.put_refusal-line.ensures.end), rw (lt-ltb _ _ short))

pub returns : goal.returns
unfolding splice
returns c =
    let room : length (refusal_text c.args.fault) ≤ length c.args.text.now = omega (arith, c.put_refusal-line.ensures.end) in
    (omega (arith, c.put_refusal.ensures.end), rw (le-ltb _ _ room) c.put_refusal.ensures.bytes)
