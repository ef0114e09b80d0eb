-- The zeros stand before the rest of s.
use Rattle.std.proofs.Common.{ℕ, List, ◌≡◌, ◌≤◌, ◌++◌, length, take, drop, replicate, sym, ap, ◌∙◌, arith}
use Rattle.std.proofs.lemmas.List.{length-take-le, length-replicate}
use Rattle.base_words.specs.Splice.{overlay}
use Rattle.base_words.proofs.Splices.{overlay-is}
use Rattle.base_words.proofs.put_zeros.Goals as goal

filled : (l : List ℕ) (n b : ℕ) → n ≤ length l → replicate (length (take n l)) b ++ drop n l ≡ overlay l (replicate n b)
filled l n b h =
    let taken : length (take n l) ≡ n = length-take-le n l h in
    let long : length (replicate n b) ≡ n = length-replicate n b in
    ap (λ (k : ℕ). replicate k b ++ drop n l) taken ∙ ap (λ (k : ℕ). replicate n b ++ drop k l) (sym long) ∙ sym (overlay-is l (replicate n b) (omega arith))

pub returns : goal.returns
returns c =
    let all = c.fill.ensures.after (λ y e. e) in
    ap (λ (l : List ℕ). l ++ drop c.args.n c.args.s.now) all ∙ filled c.args.s.now c.args.n 0 c.requires
