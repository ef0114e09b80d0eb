-- The header, the length, then the code.
use Rattle.base_conventions.specs.Numbers.{convention_code}
use Rattle.std.proofs.Common.{Ok, Err}
use Rattle.std.proofs.lemmas.Result.{err_from_is_err_and}
use mathlib.Core.Path.{sym, ap, ◌∙◌}
use native.Mathlib.Omega.{arith}
use Rattle.sig_items.proofs.Sound.{body-framed}
use Rattle.sig_signatures.specs.Answer.{convention_answer}
use Rattle.sig_signatures.proofs.Laws.{convention-no, convention-length, convention-by, header-to, header-no}
use Rattle.sig_head.proofs.read_convention.Goals as goal

pub returns-then-to-ne4 : goal.returns-then-to-ne4
returns-then-to-ne4 c = ap Err c.fault_here.ensures ∙ sym (ap convention_answer (convention-length _ _ (header-to _ _ _ (sym c.enter_item.ensures ∙ c.in_ok-to.was)) c.if-to-ne4.true))

pub bounds-s-3 : goal.bounds-s-3
bounds-s-3 c = let f = body-framed _ _ _ _ _ _ (header-to _ _ _ (sym c.enter_item.ensures ∙ c.in_ok-to.was)) in omega arith

pub returns-in_err-to : goal.returns-in_err-to
returns-in_err-to c =
    let (y, is, same) = err_from_is_err_and c.from_residual.result c.from_residual.ensures.1 in
    let (r, was, fault) = header-no _ _ _ (sym c.enter_item.ensures ∙ c.in_err-to.was) in
    is ∙ ap Err (same ∙ fault) ∙ sym (ap convention_answer (convention-no _ _ was))

pub returns-in-Ok : goal.returns-in-Ok
returns-in-Ok c = sym (ap convention_answer (convention-by _ _ (header-to _ _ _ (sym c.enter_item.ensures ∙ c.in_ok-to.was)) c.if-to-ne4.false (Ok c.in-Ok.c) (sym c.in-Ok.is ∙ c.try_from.ensures ∙ ap convention_code c.from.ensures)))

pub returns-in-Err : goal.returns-in-Err
returns-in-Err c =
    ap Err c.fault_here-in-Err.ensures
    ∙ sym (ap convention_answer (convention-by _ _ (header-to _ _ _ (sym c.enter_item.ensures ∙ c.in_ok-to.was)) c.if-to-ne4.false (Err c.in-Err.field-0) (sym c.in-Err.is ∙ c.try_from.ensures ∙ ap convention_code c.from.ensures)))
