-- The tests are the definition's, in its order.
use mathlib.Core.Path.{sym}
use native.Mathlib.Omega.{arith}
use Rattle.sig_items.proofs.Laws.{body-short, body-outside, body-past, body-to}
use Rattle.sig_item_headers.proofs.read_body.Goals as goal

pub returns-then-end-at-lt3 : goal.returns-then-end-at-lt3
returns-then-end-at-lt3 c = sym (body-short _ _ _ _ _ (omega arith))

pub returns-then-tag-low : goal.returns-then-tag-low
returns-then-tag-low c = sym (body-outside _ _ _ _ _ (omega arith) c.then-tag-low.either)

pub returns-then-end-at : goal.returns-then-end-at
returns-then-end-at c = sym (body-past _ _ _ _ _ (omega arith) (omega arith) (omega arith) _ c.two_bytes-length.ensures (omega arith))

pub returns : goal.returns
returns c = sym (body-to _ _ _ _ _ (omega arith) (omega arith) (omega arith) _ c.two_bytes-length.ensures (omega arith))
