-- The length, then the code.
use Rattle.sig_types.specs.Codes.{unknown_code}
use Rattle.std.proofs.Common.{Ok, Err}
use mathlib.Core.Path.{sym, ap, ◌∙◌}
use native.Mathlib.Omega.{arith}
use Rattle.sig_types.specs.Trees.{type_of}
use Rattle.sig_items.proofs.Laws.{integer-length, integer-by}
use Rattle.sig_nested_items.proofs.read_integer.Goals as goal

pub returns-then-end-at-ne4 : goal.returns-then-end-at-ne4
returns-then-end-at-ne4 c = ap Err c.fault_here.ensures ∙ sym (integer-length _ _ _ _ (omega arith))

pub returns-in-Ok : goal.returns-in-Ok
unfolding type_of
returns-in-Ok c = sym (integer-by _ _ _ _ (omega arith) (Ok c.in-Ok.kind) (sym c.in-Ok.is ∙ c.try_from.ensures))

pub returns-in-Err : goal.returns-in-Err
returns-in-Err c = ap Err c.fault_here-in-Err.ensures ∙ sym (integer-by _ _ _ _ (omega arith) (Err unknown_code) (sym c.in-Err.is ∙ c.try_from.ensures))
