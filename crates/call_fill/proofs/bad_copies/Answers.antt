-- By the tests in turn.
use mathlib.Core.Path.{◌≡◌, refl, sym}
use Prim.Native.Nat.{◌+◌, ◌-◌, ◌^◌, ◌<◌, ℕ}
use native.Mathlib.Omega.{arith}
use borrow.Author.Tests.{eq-eqb, ne_eqb, lt-ltb, le-ltb, ltb-true, ltb-false}
use Rattle.call_fill.specs.Fill.{bad_copies}
use mathlib.Core.Bool.{Bool, true, false}
use lib.Dec.{ltb}
use Rattle.call_fill.proofs.bad_copies.Goals as goal

-- the sum is tested without a wrap
over : (base e : ℕ) → base < 2 ^ 64 → ltb (18446744073709551615 - base) e ≡ ltb 18446744073709551615 (base + e)
over base e h = go (ltb (18446744073709551615 - base) e) refl
  where
    go : (b : Bool) → ltb (18446744073709551615 - base) e ≡ b → b ≡ ltb 18446744073709551615 (base + e)
    go true q = sym (lt-ltb 18446744073709551615 (base + e) (omega (arith, ltb-true (18446744073709551615 - base) e q)))
    go false q = sym (le-ltb 18446744073709551615 (base + e) (omega (arith, ltb-false (18446744073709551615 - base) e q)))

pub returns-then-e-eq0 : goal.returns-then-e-eq0
unfolding bad_copies
returns-then-e-eq0 c = simp (eq-eqb _ _ c.if-e-eq0.true)

pub returns-then-n-e : goal.returns-then-n-e
unfolding bad_copies
returns-then-n-e c = simp (ne_eqb _ _ c.if-e-eq0.false, lt-ltb _ _ c.if-n-e.true)

pub returns-then-base-ne0 : goal.returns-then-base-ne0
unfolding bad_copies
returns-then-base-ne0 c = simp (ne_eqb _ _ c.if-e-eq0.false, le-ltb _ _ c.if-n-e.false, ne_eqb _ _ c.if-base-ne0.true)

pub returns : goal.returns
unfolding bad_copies
returns c =
    simp (ne_eqb _ _ c.if-e-eq0.false, le-ltb _ _ c.if-n-e.false, eq-eqb _ _ c.if-base-ne0.false) (over c.args.base c.args.e c.ranges.base.fits)
