-- Where the papers leave an argument's place open: not where no FPR is left; else where fewer are left than are asked for. Assumes nothing.
use mathlib.Core.Path.{◌≡◌}
use mathlib.Core.Bool.{false}
use Prim.Native.Nat.{◌-◌, ◌<◌, ◌≤◌}
use native.Mathlib.Omega.{arith}
use borrow.Author.Tests.{lt-ltb, le-ltb}
use lib.Dec.{ltb}
use Rattle.sig_types.specs.declared.ValueType.{ValueType}
use Rattle.plan_places.specs.declared.Cursor.{Cursor}
use Rattle.plan_places.specs.declared.Edition.{Edition}
use Rattle.plan_places.specs.declared.PowerRules.{PowerRules}
use Rattle.plan_places.specs.Power.{fprs, unclear}
use Rattle.plan_places.proofs.Written.{earlier-clear}

pub earlier_clear : (f : PowerRules) (c : Cursor) (t : ValueType) → f.edition ≡ Edition.Earlier → unclear f c t ≡ false
earlier_clear f c t e = earlier-clear f c t e

pub none_left : (f : PowerRules) (c : Cursor) (t : ValueType) → 14 - c.floating ≡ 0 → unclear f c t ≡ false
unfolding unclear
none_left f c t h =
    let z : 14 - c.floating ≤ 0 = omega arith in
    rw (le-ltb 0 (14 - c.floating) z)

pub some_left : (f : PowerRules) (c : Cursor) (t : ValueType) → (14 - c.floating ≡ 0 → ⊥) → unclear f c t ≡ ltb (14 - c.floating) (fprs f.edition t)
unfolding unclear
some_left f c t h =
    let z : 0 < 14 - c.floating = omega (arith, h) in
    rw (lt-ltb 0 (14 - c.floating) z)
