-- Runs of none and of some, and the size of a result. Assumes nothing.
use Rattle.std.proofs.Common.{Some, None, Option}
use mathlib.Core.Path.{◌≡◌, refl, subst}
use Prim.Native.Nat.{ℕ, zero, suc, ◌≤◌}
use native.Mathlib.Omega.{arith}
use Rattle.base_conventions.specs.declared.Convention.{Convention}
use Rattle.sig_types.specs.declared.ValueType.{ValueType}
use Rattle.sig_types.specs.Sizes.{size_of}
use Rattle.sig_signatures.specs.Helpers.{SmallResult}
use Rattle.second_parameters.specs.Values.{numbers, run_of, no_run}

-- ---- runs

pub run_none : (a n : ℕ) → n ≡ 0 → no_run ≡ run_of a n
unfolding run_of
run_none a zero h = refl
run_none a (suc n) h = absurd (omega arith)

pub run-some : (a n : ℕ) → (n ≡ 0 → ⊥) → numbers a n ≡ run_of a n
unfolding run_of
run-some a zero h = absurd (h refl)
run-some a (suc n) h = refl

-- ---- a result's type

pub small-value : (c : Convention) (r : Option ValueType) (t : ValueType) → r ≡ Some t → SmallResult c r → size_of c t ≤ 256
small-value c None t e h = let z : ◌≡◌ {A = ℕ} 0 1 = cc in absurd (omega arith)
small-value c (Some u) t e h = let same : u ≡ t = cc in subst (λ (x : ValueType). size_of c x ≤ 256) same h
