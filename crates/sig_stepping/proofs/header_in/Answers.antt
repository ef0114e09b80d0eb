-- The tag of a header that is not refused.
use mathlib.Core.Path.{sym, ◌∙◌}
use native.Mathlib.Omega.{arith}
use Rattle.sig_stepping.proofs.Laws.{body-inside}
use Rattle.sig_stepping.proofs.header_in.Goals as goal

pub bounds-s-at : goal.bounds-s-at
bounds-s-at c = let i = body-inside _ _ _ _ (sym c.body_in.ensures ∙ c.in_ok-to.was) in omega arith
