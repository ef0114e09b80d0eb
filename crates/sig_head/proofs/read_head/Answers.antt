-- The length first, then the items in order.
use Rattle.std.proofs.Common.{Err}
use Rattle.std.proofs.lemmas.Result.{err_from_is_err_and}
use mathlib.Core.Path.{sym, ap, ◌∙◌}
use native.Mathlib.Omega.{arith}
use Rattle.sig_signatures.specs.Answer.{head_answer}
use Rattle.sig_signatures.proofs.Laws.{convention-known, head-long, head-no-convention, head-known}
use Rattle.sig_signatures.proofs.Sound.{convention-read}
use Rattle.sig_head.proofs.read_head.Goals as goal

pub returns-then-s-gt-MAX_LENGTH : goal.returns-then-s-gt-MAX_LENGTH
returns-then-s-gt-MAX_LENGTH c = ap Err c.fault_here.ensures ∙ sym (ap head_answer (head-long _ c.if-s-gt-MAX_LENGTH.true))

pub read_head_after-requires : goal.read_head_after-requires
read_head_after-requires c = let k = convention-read _ _ _ _ (convention-known _ _ _ c.read_convention.ensures c.in_ok-c.was) in omega arith

pub returns-in_err-c : goal.returns-in_err-c
returns-in_err-c c =
    let (y, is, same) = err_from_is_err_and c.from_residual.result c.from_residual.ensures.1 in
    is ∙ ap Err same ∙ sym (ap head_answer (head-no-convention _ c.if-s-gt-MAX_LENGTH.false _ c.read_convention.ensures _ c.in_err-c.was))

pub returns : goal.returns
returns c = c.read_head_after.ensures ∙ sym (ap head_answer (head-known _ c.if-s-gt-MAX_LENGTH.false _ c.read_convention.ensures _ c.in_ok-c.was))
