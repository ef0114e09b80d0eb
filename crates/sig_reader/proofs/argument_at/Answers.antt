-- What comes before the arguments, then the arguments.
use Rattle.std.proofs.Common.{Err}
use Rattle.std.proofs.lemmas.Result.{err_from_is_err_and}
use mathlib.Core.Path.{sym, ap, ◌∙◌}
use native.Mathlib.Omega.{arith}
use Rattle.sig_signatures.proofs.Laws.{signature-refused}
use Rattle.sig_signatures.proofs.Sound.{head-bounded}
use Rattle.sig_reader.specs.Argument.{argument_of}
use Rattle.sig_reader.proofs.Found.{begun, argument-begun}
use Rattle.sig_reader.proofs.argument_at.Goals as goal

pub argument_from-requires : goal.argument_from-requires
argument_from-requires c = let k = head-bounded _ _ _ _ _ _ _ _ c.read_head.ensures c.in_ok-head.was in omega arith

pub returns-in_err-head : goal.returns-in_err-head
returns-in_err-head c =
    let (y, is, same) = err_from_is_err_and c.from_residual.result c.from_residual.ensures.1 in
    is ∙ ap Err same ∙ sym (ap (argument_of c.args.index) (signature-refused _ _ c.read_head.ensures _ c.in_err-head.was))

pub returns : goal.returns
returns c = c.argument_from.ensures ∙ sym (argument-begun _ _ _ _ _ _ _ _ (begun _ _ c.read_head.ensures _ _ _ _ _ _ c.in_ok-head.was))
