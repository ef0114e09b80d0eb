-- Small facts that the proofs of several functions cite. Assumes nothing.
use mathlib.Core.Path.{◌≡◌, subst}
use Rattle.frame_rules.specs.Rules.{Linkage, FrameRules}
use Rattle.frame_rules.specs.Helpers.{LinkageLaw}

-- the law of a linkage that is known
pub law-at : (p q : Linkage) (k : FrameRules) → p ≡ q → LinkageLaw p k → LinkageLaw q k
law-at p q k e h = subst (λ (r : Linkage). LinkageLaw r k) e h
