-- `words::sign_extend` meets its contract: the sign's bit halves the range of n bytes, and a number in its upper half gets ones above it. Assumes nothing.
use mathlib.Core.Path.{◌≡◌, sym, ◌∙◌}
use Prim.Native.Nat.{ℕ, ◌-◌, ◌*◌, ◌%◌, ◌^◌, ◌≤◌, ◌<◌}
use native.Mathlib.Nat.{one-mul}
use native.Mathlib.Omega.{arith}
use lib.Pow.{pow_pos, pow_mono, shl_exact}
use Rattle.base_words.specs.Numbers.{zero_extended}
use Rattle.base_words.proofs.Numbers.{halves, zero_extended-below, sign_extended-positive, sign_extended-negative}
use Rattle.base_words.proofs.sign_extend.Goals as goal

-- the sign's bit, as it is shifted into place
record Sign (n : ℕ) : Type 0 where
  shifted : 1 * 2 ^ (8 * n - 1) % 2 ^ 64 ≡ 2 ^ (8 * n - 1)
  low : 1 ≤ 2 ^ (8 * n - 1)
  high : 2 ^ (8 * n - 1) ≤ 2 ^ 63
  range : 2 ^ (8 * n) ≡ 2 * 2 ^ (8 * n - 1)

sign_of : (n : ℕ) → (1 ≤ n) × (n ≤ 8) → Sign n
sign_of n h =
    let k : 8 * n - 1 ≤ 63 = omega arith in
    record {
      shifted = shl_exact 1 (8 * n - 1) 64 (omega arith) (omega arith) ∙ one-mul (2 ^ (8 * n - 1));
      low = pow_pos (8 * n - 1);
      high = pow_mono k;
      range = halves n h.0;
    }

pub returns-then-low-sign : goal.returns-then-low-sign
returns-then-low-sign c =
    let s = sign_of c.args.n c.requires in
    let small : zero_extended c.args.n c.args.x < 2 ^ (8 * c.args.n - 1) = omega arith in
    c.zero_extend-low.ensures ∙ sym (sign_extended-positive c.args.n c.args.x c.requires.0 small)

pub overflow_sub-result : goal.overflow_sub-result
overflow_sub-result c = let s = sign_of c.args.n c.requires in omega arith

pub overflow_sub-result-3 : goal.overflow_sub-result-3
overflow_sub-result-3 c = let s = sign_of c.args.n c.requires in omega arith

pub overflow_add-result : goal.overflow_add-result
overflow_add-result c =
    let s = sign_of c.args.n c.requires in
    omega (arith, zero_extended-below c.args.n c.args.x)

pub returns : goal.returns
returns c =
    let s = sign_of c.args.n c.requires in
    let large : 2 ^ (8 * c.args.n - 1) ≤ zero_extended c.args.n c.args.x = omega arith in
    omega (arith, sign_extended-negative c.args.n c.args.x c.requires.0 large)
