-- The laws of numbers in eight bytes, one after the other. Assumes nothing.
use mathlib.Core.Path.{◌≡◌, refl, ap, ◌∙◌}
use mathlib.Core.List.{List, [], ◌∷◌, ◌++◌}
use Prim.Native.Nat.{ℕ, zero, suc, ◌+◌, ◌*◌, ◌<◌}
use native.Mathlib.Omega.{arith}
use lib.ListN.{length, get_or, take, length-append}
use lib.Seq.{take_at, drop-append-add}
use Rattle.base_words.specs.Splice.{part}
use Rattle.base_words.specs.Numbers.{bytes_of}
use Rattle.base_words.proofs.Numbers.{length-bytes_of}
use Rattle.both_whole_call.specs.Put.{words_of}

pub words-length : (xs : List ℕ) → length (words_of xs) ≡ 8 * length xs
unfolding words_of
words-length [] = refl
words-length (x ∷ xs) = simp length-append (omega (arith, length-bytes_of 8 x, words-length xs))

pub words-at : (xs : List ℕ) (n : ℕ) → n < length xs → part (8 * n) 8 (words_of xs) ≡ bytes_of 8 (get_or xs n 0)
unfolding words_of
words-at [] n h = absurd (omega arith)
words-at (x ∷ xs) zero h = take_at (bytes_of 8 x) (words_of xs) 8 (length-bytes_of 8 x)
words-at (x ∷ xs) (suc n) h =
    let e : 8 * suc n ≡ length (bytes_of 8 x) + 8 * n = omega (arith, length-bytes_of 8 x) in
    ap (λ (j : ℕ). part j 8 (bytes_of 8 x ++ words_of xs)) e ∙ ap (take 8) (drop-append-add (bytes_of 8 x) (words_of xs) (8 * n)) ∙ words-at xs n (omega arith)
