-- By the code of the convention. Assumes nothing.
use Rattle.base_conventions.specs.declared.UnknownConvention.{UnknownConvention}
use Rattle.base_conventions.specs.declared.Convention.{Convention}
use Rattle.std.proofs.Common.{Result}
use mathlib.Core.Path.{sym, ap, ◌∙◌}
use Rattle.call_walker.specs.Words.{walker_by, walker_in}
use Rattle.call_walker_words.proofs.walker_in.Goals as goal

pub returns-in-Ok : goal.returns-in-Ok
unfolding walker_in
returns-in-Ok c = c.walker_by.ensures ∙ ap (λ (k : Result Convention UnknownConvention). walker_by k c.args.words.now) (sym c.in-Ok.is ∙ c.try_from.ensures)

pub returns-in-Err : goal.returns-in-Err
unfolding walker_in
returns-in-Err c = ap (λ (k : Result Convention UnknownConvention). walker_by k c.args.words.now) (sym c.in-Err.is ∙ c.try_from.ensures)
