-- What comes before the arguments, then the arguments.
use mathlib.Core.Path.{sym, ap, ◌∙◌}
use native.Mathlib.Omega.{arith}
use Rattle.sig_signatures.specs.Answer.{signature_answer}
use Rattle.sig_signatures.proofs.Laws.{signature-refused, signature-arguments}
use Rattle.sig_signatures.proofs.Sound.{head-bounded}
use Rattle.sig_whole.proofs.read_signature.Goals as goal

pub read_arguments-requires : goal.read_arguments-requires
read_arguments-requires c = let k = head-bounded _ _ _ _ _ _ _ _ c.read_head.ensures c.in-Ok.is in omega arith

pub returns-in-Err : goal.returns-in-Err
returns-in-Err c = c.refuse.ensures ∙ sym (ap signature_answer (signature-refused _ _ c.read_head.ensures _ c.in-Err.is))

pub returns-in-Ok : goal.returns-in-Ok
returns-in-Ok c = c.read_arguments.ensures ∙ sym (signature-arguments _ _ c.read_head.ensures _ _ _ _ _ _ c.in-Ok.is)
