-- The result, then the ellipsis, then the last item's header.
use Rattle.std.proofs.Common.{Err}
use mathlib.Core.Path.{sym, ap, ◌∙◌}
use native.Mathlib.Omega.{arith}
use Rattle.sig_signatures.specs.Answer.{head_answer}
use Rattle.sig_signatures.proofs.Laws.{head-no-result, head-no-ellipsis, head-no-arguments, head-to}
use Rattle.sig_signatures.proofs.Sound.{result-bounded, ellipsis-bounded}
use Rattle.sig_signatures.proofs.HowFar.{result-fault-third, ellipsis-fault-third}
use Rattle.sig_head.proofs.read_head_after.Goals as goal

pub later_by-requires : goal.later_by-requires
later_by-requires c = let k = result-fault-third _ _ _ _ _ (omega arith) c.read_result.ensures c.in-Err.is in omega arith

pub overflow_add-counted : goal.overflow_add-counted
overflow_add-counted c = let k = result-bounded _ _ _ _ _ _ _ c.read_result.ensures c.in-Ok.is in omega arith

pub read_ellipsis-requires : goal.read_ellipsis-requires
read_ellipsis-requires c = let k = result-bounded _ _ _ _ _ _ _ c.read_result.ensures c.in-Ok.is in omega arith

pub later_by-requires-in-Err-read_ellipsis : goal.later_by-requires-in-Err-read_ellipsis
later_by-requires-in-Err-read_ellipsis c = let k = result-bounded _ _ _ _ _ _ _ c.read_result.ensures c.in-Ok.is in let e = ellipsis-fault-third _ _ _ _ k.inside c.read_ellipsis.ensures c.in-Err-read_ellipsis.is in omega arith

pub overflow_add-earlier : goal.overflow_add-earlier
overflow_add-earlier c = let k = result-bounded _ _ _ _ _ _ _ c.read_result.ensures c.in-Ok.is in let e = ellipsis-bounded _ _ _ _ _ _ k.inside c.read_ellipsis.ensures c.in-Ok-read_ellipsis.is in omega arith

pub read_body-requires : goal.read_body-requires
read_body-requires c = let k = result-bounded _ _ _ _ _ _ _ c.read_result.ensures c.in-Ok.is in let e = ellipsis-bounded _ _ _ _ _ _ k.inside c.read_ellipsis.ensures c.in-Ok-read_ellipsis.is in omega arith

pub overflow_add-result : goal.overflow_add-result
overflow_add-result c = let k = result-bounded _ _ _ _ _ _ _ c.read_result.ensures c.in-Ok.is in let e = ellipsis-bounded _ _ _ _ _ _ k.inside c.read_ellipsis.ensures c.in-Ok-read_ellipsis.is in omega arith

pub returns-in-Err : goal.returns-in-Err
returns-in-Err c = ap Err c.later_by.ensures ∙ sym (ap head_answer (head-no-result _ _ _ _ _ c.read_result.ensures _ c.in-Err.is))

pub returns-in-Err-read_ellipsis : goal.returns-in-Err-read_ellipsis
returns-in-Err-read_ellipsis c = ap Err c.later_by-in-Err-read_ellipsis.ensures ∙ sym (ap head_answer (head-no-ellipsis _ _ _ _ _ c.read_result.ensures _ _ _ c.in-Ok.is _ c.read_ellipsis.ensures _ c.in-Err-read_ellipsis.is))

pub returns-in-Err-read_body : goal.returns-in-Err-read_body
returns-in-Err-read_body c = sym (ap head_answer (head-no-arguments _ _ _ _ _ c.read_result.ensures _ _ _ c.in-Ok.is _ c.read_ellipsis.ensures _ _ _ c.in-Ok-read_ellipsis.is _ (sym c.read_body.ensures ∙ c.in-Err-read_body.is)))

pub returns-in-Ok-read_body : goal.returns-in-Ok-read_body
returns-in-Ok-read_body c = sym (head-to _ _ _ _ _ c.read_result.ensures _ _ _ c.in-Ok.is _ c.read_ellipsis.ensures _ _ _ c.in-Ok-read_ellipsis.is _ (sym c.read_body.ensures ∙ c.in-Ok-read_body.is))
