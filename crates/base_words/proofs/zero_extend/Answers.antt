-- `words::zero_extend` meets its contract: what is shifted out above does not come back. Assumes nothing.
use mathlib.Core.Path.{◌≡◌, ap, ◌∙◌}
use Prim.Native.Nat.{ℕ, ◌+◌, ◌-◌, ◌*◌, ◌/◌, ◌%◌, ◌^◌}
use native.Mathlib.Omega.{arith}
use lib.Pow.{field, shl-shr}
use Rattle.base_words.specs.Numbers.{zero_extended}
use Rattle.base_words.proofs.zero_extend.Goals as goal

pub returns : goal.returns
unfolding zero_extended
returns c =
    let k : ℕ = 64 - 8 * c.args.n in
    let e : 64 ≡ 8 * c.args.n + k = omega arith in
    ap (λ (w : ℕ). c.args.x * 2 ^ k % 2 ^ w / 2 ^ k) e ∙ field (c.args.x * 2 ^ k) (8 * c.args.n) k ∙ ap (λ (y : ℕ). y % 2 ^ (8 * c.args.n)) (shl-shr c.args.x k)
