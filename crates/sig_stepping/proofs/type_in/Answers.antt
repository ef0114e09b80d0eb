-- "1 first"; a place past the end is a header with no room; else the covered reader's type item.
use Rattle.std.proofs.Common.{Err}
use mathlib.Core.Path.{ap, ◌∙◌}
use native.Mathlib.Omega.{arith}
use Rattle.sig_stepping.proofs.Laws.{end-inside, type-long, type-past, type-here}
use Rattle.sig_stepping.proofs.type_in.Goals as goal

pub returns-then-s-gt-MAX_LENGTH : goal.returns-then-s-gt-MAX_LENGTH
returns-then-s-gt-MAX_LENGTH c = ap Err c.fault_here.ensures ∙ type-long _ _ _ _ c.if-s-gt-MAX_LENGTH.true

pub returns-then-to-at : goal.returns-then-to-at
returns-then-to-at c = ap Err c.fault_here-then-to-at.ensures ∙ type-past _ _ _ c.if-s-gt-MAX_LENGTH.false _ c.end_in-to.ensures _ c.if-to-at.true

pub read_item-requires : goal.read_item-requires
read_item-requires c = let i = end-inside _ _ _ c.end_in-to.ensures in omega arith

pub returns : goal.returns
returns c = type-here _ _ _ c.if-s-gt-MAX_LENGTH.false _ c.end_in-to.ensures _ _ c.read_item.ensures
