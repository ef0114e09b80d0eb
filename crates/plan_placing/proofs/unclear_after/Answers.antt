-- Where the rules are always clear the first that was found stays, or none.
use Prim.Native.Nat.{ℕ, zero, suc}
use mathlib.Core.Bool.{Bool, false}
use mathlib.Core.Path.{◌≡◌, refl, sym, ◌∙◌}
use Rattle.plan_places.specs.Helpers.{unclear_after}
use Rattle.plan_places.proofs.Written.{always-clear}
use Rattle.plan_placing.proofs.unclear_after.Goals as goal

stays : (u i : ℕ) (b : Bool) → b ≡ false → u ≡ unclear_after u b i
unfolding unclear_after
stays zero i b e = rw e
stays (suc u) i b e = refl

pub returns-then-always_clear : goal.returns-then-always_clear
returns-then-always_clear c = stays _ _ _ (always-clear _ _ _ (sym c.always_clear.ensures ∙ c.if-always_clear.true))
