-- The header, then the body.
use Rattle.std.proofs.Common.{Err}
use Rattle.std.proofs.lemmas.Result.{err_from_is_err_and}
use mathlib.Core.Path.{sym, ap, ◌∙◌}
use native.Mathlib.Omega.{arith}
use Rattle.sig_items.proofs.Sound.{body-framed}
use Rattle.sig_signatures.specs.Answer.{result_answer}
use Rattle.sig_signatures.proofs.Laws.{result-refused, result-to, header-to, header-no}
use Rattle.sig_head.proofs.read_result.Goals as goal

pub read_result_body-requires : goal.read_result_body-requires
read_result_body-requires c = let f = body-framed _ _ _ _ _ _ (header-to _ _ _ (sym c.enter_item.ensures ∙ c.in_ok-to.was)) in omega arith

pub returns-in_err-to : goal.returns-in_err-to
returns-in_err-to c =
    let (y, is, same) = err_from_is_err_and c.from_residual.result c.from_residual.ensures.1 in
    let (r, was, fault) = header-no _ _ _ (sym c.enter_item.ensures ∙ c.in_err-to.was) in
    is ∙ ap Err (same ∙ fault) ∙ sym (ap (result_answer _) (result-refused _ _ _ _ was))

pub returns : goal.returns
returns c = c.read_result_body.ensures ∙ sym (ap (result_answer _) (result-to _ _ _ _ (header-to _ _ _ (sym c.enter_item.ensures ∙ c.in_ok-to.was))))
