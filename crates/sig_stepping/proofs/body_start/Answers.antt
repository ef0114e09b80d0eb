-- Three bytes further, where the header is not refused.
use borrow.Author.Rules.{rules}
use mathlib.Core.Path.{sym, ◌∙◌}
use Rattle.sig_stepping.proofs.Laws.{body-inside, start-found, start-refused}
use Rattle.sig_stepping.proofs.body_start.Goals as goal

pub overflow_add-result : goal.overflow_add-result
overflow_add-result c = let i = body-inside _ _ _ _ (sym c.body_in.ensures ∙ c.in-Ok.is) in search rules

pub returns-in-Ok : goal.returns-in-Ok
returns-in-Ok c = start-found _ _ _ _ c.body_in.ensures _ c.in-Ok.is

pub returns-in-Err : goal.returns-in-Err
returns-in-Err c = start-refused _ _ _ _ c.body_in.ensures _ c.in-Err.is
