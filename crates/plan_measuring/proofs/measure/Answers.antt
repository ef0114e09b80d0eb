-- What comes before the arguments, then the arguments, and then the first unclear one.
use native.Mathlib.Omega.{arith}
use mathlib.Core.Path.{sym, ◌∙◌}
use Rattle.sig_signatures.proofs.Laws.{signature-refused}
use Rattle.sig_signatures.proofs.Sound.{head-bounded}
use Rattle.plan_plans.proofs.Measures.{measured-arguments, unclear-arguments}
use Rattle.plan_plans.proofs.Calls.{measured-refused, measured-called}
use Rattle.plan_measuring.proofs.measure.Goals as goal

pub measure_call-requires : goal.measure_call-requires
measure_call-requires c = let k = head-bounded _ _ _ _ _ _ _ _ c.read_head.ensures c.in-Ok.is in omega arith

pub returns-in-Err : goal.returns-in-Err
returns-in-Err c = c.no_measure.ensures ∙ measured-refused _ _ (signature-refused _ _ c.read_head.ensures _ c.in-Err.is)

pub returns-in-Ok : goal.returns-in-Ok
returns-in-Ok c =
    c.measure_call.ensures
    ∙ measured-called _ _ _ (measured-arguments _ _ c.read_head.ensures _ _ _ _ _ _ c.in-Ok.is) (sym (unclear-arguments _ _ c.read_head.ensures _ _ _ _ _ _ c.in-Ok.is))
