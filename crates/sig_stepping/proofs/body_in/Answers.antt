-- "1 first"; a place past the end is a header with no room; else the covered reader's header.
use native.Mathlib.Omega.{arith}
use Rattle.sig_stepping.proofs.Laws.{end-inside, body-long, body-past, body-here}
use Rattle.sig_stepping.proofs.body_in.Goals as goal

pub returns-then-s-gt-MAX_LENGTH : goal.returns-then-s-gt-MAX_LENGTH
returns-then-s-gt-MAX_LENGTH c = body-long _ _ _ c.if-s-gt-MAX_LENGTH.true

pub returns-then-to-at : goal.returns-then-to-at
returns-then-to-at c = body-past _ _ _ c.if-s-gt-MAX_LENGTH.false _ c.end_in-to.ensures c.if-to-at.true

pub read_body-requires : goal.read_body-requires
read_body-requires c = let i = end-inside _ _ _ c.end_in-to.ensures in omega arith

pub returns : goal.returns
returns c = body-here _ _ _ c.if-s-gt-MAX_LENGTH.false _ c.end_in-to.ensures _ c.read_body.ensures
