-- A turn of the sum of the values. Assumes nothing.
use mathlib.Core.Path.{◌≡◌}
use mathlib.Core.List.{List, ◌∷◌}
use Prim.Native.Nat.{ℕ, suc, ◌+◌, ◌*◌, ◌≤◌}
use native.Mathlib.Omega.{arith}
use native.Mathlib.Numerals.{add-one}
use lib.ListN.{drop}
use Rattle.base_conventions.specs.declared.Convention.{Convention}
use Rattle.sig_types.specs.declared.ValueType.{ValueType}
use Rattle.sig_types.specs.Sizes.{size_of}
use Rattle.sig_signatures.specs.Types.{values_of}

-- ---- the values

pub record Adding (c : Convention) (ts : List ValueType) (v i : ℕ) : Type 0 where
  pub total : v + values_of c (drop i ts) ≡ values_of c ts
  pub small : v ≤ 256 * i

pub adding-start : (c : Convention) (ts : List ValueType) → Adding c ts 0 0
adding-start c ts = record { total = omega arith; small = omega arith }

pub adding-more : (c : Convention) (ts : List ValueType) (v i : ℕ) (t : ValueType) → size_of c t ≤ 256 → drop i ts ≡ t ∷ drop (suc i) ts
    → Adding c ts v i → Adding c ts (v + size_of c t) (i + 1)
unfolding values_of
adding-more c ts v i t small d g =
    let total : v + (size_of c t + values_of c (drop (suc i) ts)) ≡ values_of c ts = rw d at g.total in
    record { total = rw add-one (omega arith); small = omega (arith, g.small) }
