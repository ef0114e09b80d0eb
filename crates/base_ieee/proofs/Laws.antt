-- The laws of widening and narrowing. Assumes nothing.
use mathlib.Core.Path.{◌≡◌, refl, sym, ap, ◌∙◌, subst}
use mathlib.Core.Bool.{Bool, true, false}
use Prim.Native.Nat.{ℕ, ◌^◌, ◌<◌}
use native.Mathlib.Omega.{arith}
use lib.Dec.{eqb}
use Rattle.base_words.specs.Basics.{pick}
use borrow.Author.Tests.{eq-eqb, eqb-true}
use Rattle.std.proofs.Common.{Some, None}
use Rattle.base_ieee.specs.Format.{FloatFields, single, double, join, split}
use Rattle.base_ieee.specs.Widening.{widen, widen_fields}
use Rattle.base_ieee.specs.Narrowing.{candidate, candidate_fields, narrow, WidensTo}
use Rattle.base_ieee.proofs.Fields.{split-fits, join-below, split-join, join-split}
use Rattle.base_ieee.proofs.Magnitudes.{widen-fits, candidate-fits, candidate-widen}

-- ---- shape

-- What widening gives are 64 bits.
pub widen-below : (x : ℕ) → widen x < 2 ^ 64
unfolding widen
widen-below x = join-below double _ (widen-fits _ (split-fits single x))

-- The candidate for narrowing is 32 bits.
pub candidate-below : (d : ℕ) → candidate d < 2 ^ 32
unfolding candidate
candidate-below d = join-below single _ (candidate-fits _ (split-fits double d))

-- The fields of a widened single are the single's fields, widened.
pub split-widen : (x : ℕ) → split double (widen x) ≡ widen_fields single double (split single x)
unfolding widen
split-widen x = split-join double _ (widen-fits _ (split-fits single x))

-- ---- there and back

-- The candidate for a widened single is this single.
pub candidate-of-widen : (x : ℕ) → x < 2 ^ 32 → candidate (widen x) ≡ x
unfolding candidate
candidate-of-widen x h =
    ap (λ (y : FloatFields). join single (candidate_fields single double y)) (split-widen x)
    ∙ ap (join single) (candidate-widen _ (split-fits single x))
    ∙ join-split single x h

-- Different singles widen to different doubles.
pub widen-injective : (x y : ℕ) → x < 2 ^ 32 → y < 2 ^ 32 → widen x ≡ widen y → x ≡ y
widen-injective x y h k e = sym (candidate-of-widen x h) ∙ ap candidate e ∙ candidate-of-widen y k

-- Narrowing a widened single gives it back.
pub narrow-widen : (x : ℕ) → x < 2 ^ 32 → narrow (widen x) ≡ Some x
unfolding narrow
narrow-widen x h = rw (candidate-of-widen, eq-eqb (widen x) (widen x) refl)

-- What narrowing accepts is the widening of the single that it answers.
pub widen-narrow : (d x : ℕ) → narrow d ≡ Some x → WidensTo x d
unfolding narrow
widen-narrow d x = go (eqb (widen (candidate d)) d) refl
  where
    go : (b : Bool) → eqb (widen (candidate d)) d ≡ b → pick b (Some (candidate d)) None ≡ Some x → WidensTo x d
    go true t e = let q : candidate d ≡ x = cc in subst (λ (y : ℕ). WidensTo y d) q (candidate-below d, eqb-true _ _ t)
    go false t e = let z : ◌≡◌ {A = ℕ} 0 1 = cc in absurd (omega arith)

-- What narrowing refuses is the widening of no single.
pub not_widened : (d : ℕ) → narrow d ≡ None → (x : ℕ) → WidensTo x d → ⊥
not_widened d e x w =
    let s : narrow d ≡ Some x = ap narrow (sym w.1) ∙ narrow-widen x w.0 in
    let z : ◌≡◌ {A = ℕ} 0 1 = cc in
    omega arith
