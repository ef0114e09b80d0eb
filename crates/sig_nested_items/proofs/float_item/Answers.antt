-- By what the convention lacks.
use Rattle.std.proofs.Common.{Err}
use mathlib.Core.Path.{sym, ap, ◌∙◌}
use Rattle.sig_types.specs.Trees.{type_of}
use Rattle.sig_items.specs.Read.{float_of}
use Rattle.sig_nested_items.proofs.float_item.Goals as goal

pub returns-then-lacks_float : goal.returns-then-lacks_float
unfolding float_of
returns-then-lacks_float c = rw (sym c.lacks_float.ensures ∙ c.if-lacks_float.true) (ap Err c.fault_here.ensures)

pub returns : goal.returns
unfolding float_of type_of
returns c = rw (sym c.lacks_float.ensures ∙ c.if-lacks_float.false)
