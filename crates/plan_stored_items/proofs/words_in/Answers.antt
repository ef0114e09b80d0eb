-- A quotient times its divisor is at most the dividend.
use Prim.Native.Nat.{ℕ, ◌/◌}
use Rattle.plan_places.specs.Step.{word_of}
use mathlib.Core.Path.{◌≡◌, sym, ap, ◌∙◌}
use native.Mathlib.Omega.{arith}
use Rattle.plan_places.proofs.Bounds.{word_some}
use Rattle.plan_stored_items.proofs.Laws.{words-most}
use borrow.Author.Rules.{rules}
use Rattle.plan_stored_items.proofs.words_in.Goals as goal

pub returns-then-word-eq8 : goal.returns-then-word-eq8
returns-then-word-eq8 c = let same : 8 ≡ word_of c.args.rules = sym c.if-word-eq8.true ∙ c.word_of-word.ensures in
    (ap (λ (w : ℕ). c.args.length / w) same, omega (arith, c.requires.1))

pub nonzero_div-result-2 : goal.nonzero_div-result-2
nonzero_div-result-2 c = let some = word_some c.args.rules c.requires.0 in omega (arith, some, c.word_of-word.ensures)

pub returns : goal.returns
returns c = let same = ap (λ (w : ℕ). c.args.length / w) c.word_of-word.ensures in
    let most = words-most c.args.rules c.args.length c.requires.0 c.requires.1 in
    (same, omega (arith, same, most))
