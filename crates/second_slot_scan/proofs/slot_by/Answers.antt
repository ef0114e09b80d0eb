-- A law for each way.
use Rattle.second_slot_scan.proofs.Laws.{float-other, float-floating, simple-other, simple-general}
use mathlib.Core.Path.{sym, ◌∙◌}
use native.Mathlib.Omega.{arith}
use Rattle.second_slot_scan.proofs.slot_by.Goals as goal

pub returns-then-s-gt-LAST_FLOATING : goal.returns-then-s-gt-LAST_FLOATING
returns-then-s-gt-LAST_FLOATING c = c.in_other.ensures ∙ sym (float-other _ _ _ c.if-float.true (omega arith))

pub returns-else-s-gt-LAST_FLOATING : goal.returns-else-s-gt-LAST_FLOATING
returns-else-s-gt-LAST_FLOATING c = c.in_floating.ensures ∙ sym (float-floating _ _ _ c.if-float.true (omega arith))

pub returns-then-s-gt-LAST_GENERAL : goal.returns-then-s-gt-LAST_GENERAL
returns-then-s-gt-LAST_GENERAL c = c.in_other-then-s-gt-LAST_GENERAL.ensures ∙ sym (simple-other _ _ _ c.if-float.false (omega arith))

pub returns-else-s-gt-LAST_GENERAL : goal.returns-else-s-gt-LAST_GENERAL
returns-else-s-gt-LAST_GENERAL c = c.in_general.ensures ∙ sym (simple-general _ _ _ c.if-float.false (omega arith))
