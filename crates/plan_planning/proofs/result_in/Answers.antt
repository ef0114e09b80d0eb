-- By cases on the result.
use Rattle.sig_signatures.specs.Helpers.{SmallResult}
use mathlib.Core.Path.{subst, ◌∙◌}
use Rattle.plan_planning.proofs.result_in.Goals as goal

pub result_places-requires : goal.result_places-requires
result_places-requires c = rw c.size_of-size.ensures (subst (SmallResult _) c.in-Some.is c.requires)

pub returns-in-Some : goal.returns-in-Some
returns-in-Some c = c.result_places.ensures ∙ rw (c.size_of-size.ensures, c.in-Some.is)
