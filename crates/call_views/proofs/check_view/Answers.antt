-- The answer of the part that is viewed.
use mathlib.Core.Path.{ap, ◌∙◌}
use Rattle.call_views.specs.declared.ViewPart.{ViewPart}
use Rattle.call_views.proofs.Viewed.{part-answer}
use Rattle.call_views.proofs.check_view.Goals as goal

pub returns : goal.returns
returns c = ap (λ (p : ViewPart). p.answer) c.view_part-p.ensures ∙ part-answer _ _ _
