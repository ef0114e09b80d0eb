-- The arguments after the head, and then the first unclear one.
use native.Mathlib.Omega.{arith}
use mathlib.Core.Path.{refl}
use Rattle.sig_signatures.proofs.Sound.{head-bounded}
use Rattle.call_arguments.proofs.Kept.{kept-where, sizes-of}
use Rattle.call_arguments.proofs.keep_call.Goals as goal

pub keep_arguments-p-requires : goal.keep_arguments-p-requires
keep_arguments-p-requires c =
    let k = head-bounded _ _ _ _ _ _ _ _ refl c.requires.0 in
    (omega arith, omega arith, omega arith, omega arith, c.requires.1)

pub returns : goal.returns
returns c = record {
  sizes_value = rw c.outcome_of-outcome.ensures (sizes-of _ _ _ _ _ _ _ c.requires.0 _ _ c.keep_arguments-p.ensures.measured_value.0 c.keep_arguments-p.ensures.measured_value.1);
  kept_where = rw c.outcome_of-outcome.ensures (kept-where _ _ _ _ _ _ _ c.requires.0 _ _ _ _ c.keep_arguments-p.ensures.measured_value.0 c.keep_arguments-p.ensures.kept_with);
}
