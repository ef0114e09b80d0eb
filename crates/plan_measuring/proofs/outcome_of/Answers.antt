-- The sizes by the reading alone have its outcome.
use Rattle.std.proofs.Common.{Err}
use Rattle.std.proofs.lemmas.Result.{err_from_is_err_and}
use native.Mathlib.Omega.{arith}
use mathlib.Core.Path.{ap, ◌∙◌}
use Rattle.sig_signatures.proofs.Laws.{signature-refused}
use Rattle.sig_signatures.proofs.Sound.{head-bounded}
use Rattle.plan_plans.specs.declared.Measured.{Measured}
use Rattle.plan_plans.proofs.Measures.{measured-arguments}
use Rattle.plan_plans.proofs.Answers.{outcome-refused, outcome-read}
use Rattle.plan_measuring.proofs.outcome_of.Goals as goal

pub measure_plain-requires : goal.measure_plain-requires
measure_plain-requires c = let k = head-bounded _ _ _ _ _ _ _ _ c.read_head.ensures c.in_ok-h.was in omega arith

pub returns-in_err-h : goal.returns-in_err-h
returns-in_err-h c =
    let (y, is, same) = err_from_is_err_and c.from_residual.result c.from_residual.ensures.1 in
    is ∙ ap Err same ∙ outcome-refused _ _ (signature-refused _ _ c.read_head.ensures _ c.in_err-h.was)

pub returns : goal.returns
returns c =
    ap (λ (m : Measured). m.outcome) (c.measure_plain.ensures ∙ measured-arguments _ _ c.read_head.ensures _ _ _ _ _ _ c.in_ok-h.was) ∙ outcome-read _
