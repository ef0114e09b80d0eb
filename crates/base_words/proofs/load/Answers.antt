-- Each turn takes one byte more of the part.
use Rattle.std.proofs.Common.{◌≡◌, ℕ, min, ◌+◌, ◌-◌, ◌*◌, ◌<◌, ◌≤◌, List, length, take, drop, get_or, refl, ap, ◌∙◌, arith}
use native.Mathlib.Numerals.{add-one}
use lib.Seq.{take-suc}
use Rattle.std.proofs.lemmas.List.{length-take, take_all}
use lib.Pow.{pow_mono}
use Rattle.base_words.specs.Splice.{part}
use Rattle.base_words.specs.Numbers.{value_of}
use Rattle.base_words.proofs.Numbers.{bytes-part, value-append, wider}
use Rattle.base_words.proofs.load.Goals as goal

-- a turn
next : (xs : List ℕ) (i : ℕ) → i < length xs → value_of (take i xs) * 256 + get_or xs i 0 ≡ value_of (take (i + 1) xs)
unfolding value_of
next xs i h = rw (add-one i, take-suc xs i 0 h, value-append) (omega arith)

-- the part has at most eight bytes
few : (k i : ℕ) (l : List ℕ) → k ≤ 8 → i < length (take k l) → 8 * i ≤ 56
few k i l short h = let long = length-take k l in omega arith

pub loop-b-init : goal.loop-b-init
unfolding value_of
loop-b-init c = (refl, omega arith)

pub overflow_mul-value : goal.overflow_mul-value
overflow_mul-value c = omega (arith, pow_mono (few _ _ _ (omega arith) c.loop-b-test.true), c.loop-b.invariant.1)

pub overflow_add-value : goal.overflow_add-value
overflow_add-value c =
    let byte = bytes-part c.args.at (c.args.at + c.args.n - c.args.at) c.args.s.now (λ i. omega (arith, c.type_inv.s i)) c.loop-b.b-index in
    omega (arith, pow_mono (few _ _ _ (omega arith) c.loop-b-test.true), c.loop-b.invariant.1)

pub loop-b-preserved : goal.loop-b-preserved
loop-b-preserved c =
    let xs : List ℕ = part c.args.at (c.args.at + c.args.n - c.args.at) c.args.s.now in
    let byte = bytes-part c.args.at (c.args.at + c.args.n - c.args.at) c.args.s.now (λ i. omega (arith, c.type_inv.s i)) c.loop-b.b-index in
    let value : c.loop-b.value * 256 + c.from.result ≡ value_of (take c.loop-b.b-index xs) * 256 + get_or xs c.loop-b.b-index 0 = cc in (
      value ∙ next xs c.loop-b.b-index c.loop-b-test.true,
      rw (add-one c.loop-b.b-index) (omega (arith, wider c.loop-b.b-index, c.loop-b.invariant.1)),
    )

pub returns : goal.returns
returns c =
    let same : c.args.at + c.args.n - c.args.at ≡ c.args.n = omega arith in
    c.loop-b.invariant.0 ∙ ap value_of (take_all c.loop-b.b-index _ (omega arith) ∙ ap (λ (n : ℕ). part c.args.at n c.args.s.now) same)
