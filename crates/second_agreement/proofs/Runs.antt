-- When two runs are the same: of none, the starts do not matter. Assumes nothing.
use mathlib.Core.Path.{◌≡◌, refl, ap}
use Prim.Native.Nat.{ℕ, zero, suc, ◌*◌, ◌<◌}
use native.Mathlib.Omega.{arith}
use native.Mathlib.Nat.{mul-zero}
use Rattle.second_parameters.specs.Values.{run_of}

pub run-same : (a b n m : ℕ) → n ≡ m → (0 < n → a ≡ b) → run_of a n ≡ run_of b m
unfolding run_of
run-same a b zero zero e h = refl
run-same a b zero (suc m) e h = absurd (omega arith)
run-same a b (suc n) zero e h = absurd (omega arith)
run-same a b (suc n) (suc m) e h = rw (e, h (omega arith))

-- n words of w bytes
pub run-scaled : (w a b n m : ℕ) → n ≡ m → (0 < n → a ≡ b) → run_of a (w * n) ≡ run_of b (w * m)
unfolding run_of
run-scaled w a b zero zero e h = rw (mul-zero w)
run-scaled w a b zero (suc m) e h = absurd (omega arith)
run-scaled w a b (suc n) zero e h = absurd (omega arith)
run-scaled w a b (suc n) (suc m) e h = rw (e, h (omega arith))
