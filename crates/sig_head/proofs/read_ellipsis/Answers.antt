-- One byte, then the header, then the length.
use Rattle.std.proofs.Common.{Ok, Err}
use Rattle.std.proofs.lemmas.Result.{err_from_is_err_and}
use mathlib.Core.Path.{sym, ap, ◌∙◌}
use native.Mathlib.Omega.{arith}
use Rattle.sig_signatures.specs.Answer.{ellipsis_answer}
use Rattle.sig_signatures.proofs.Laws.{ellipsis-end, ellipsis-none, ellipsis-no, ellipsis-more, ellipsis-one, header-to, header-no}
use Rattle.sig_head.proofs.read_ellipsis.Goals as goal
use Rattle.sig_head.proofs.read_ellipsis.Goals.{then-at-s-via-then-at-s, then-at-s-via-else-at-s+then-s-at-ne4}

pub returns-then-at-s : goal.returns-then-at-s
returns-then-at-s c =
    elim c.then-at-s.branch [
      | then-at-s-via-then-at-s w ↦ sym (ap ellipsis_answer (ellipsis-end _ _ (omega arith)))
      | then-at-s-via-else-at-s+then-s-at-ne4 w ↦ sym (ap ellipsis_answer (ellipsis-none _ _ w.if-s-at-ne4.true))
    ]

pub returns-then-to-at : goal.returns-then-to-at
returns-then-to-at c = ap Err c.fault_here.ensures ∙ sym (ap ellipsis_answer (ellipsis-more _ _ c.if-s-at-ne4.false _ (header-to _ _ _ (sym c.enter_item.ensures ∙ c.in_ok-to.was)) c.if-to-at.true))

pub returns-in_err-to : goal.returns-in_err-to
returns-in_err-to c =
    let (y, is, same) = err_from_is_err_and c.from_residual.result c.from_residual.ensures.1 in
    let (r, was, fault) = header-no _ _ _ (sym c.enter_item.ensures ∙ c.in_err-to.was) in
    is ∙ ap Err (same ∙ fault) ∙ sym (ap ellipsis_answer (ellipsis-no _ _ c.if-s-at-ne4.false _ was))

pub returns : goal.returns
returns c = sym (ap ellipsis_answer (ellipsis-one _ _ c.if-s-at-ne4.false _ (header-to _ _ _ (sym c.enter_item.ensures ∙ c.in_ok-to.was)) c.if-to-at.false))
