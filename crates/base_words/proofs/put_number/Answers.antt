use mathlib.Core.Path.{◌≡◌, refl, sym, ap, ◌∙◌}
use mathlib.Core.List.{List, [], ◌∷◌, ◌++◌}
use Prim.Native.Nat.{ℕ, ◌+◌, ◌-◌, ◌/◌, ◌%◌}
use native.Mathlib.Nat.{div-one, le_refl}
use native.Mathlib.Omega.{arith}
use lib.ListN.{length, set}
use Rattle.base_words.specs.Splice.{overlay}
use Rattle.base_words.specs.Numbers.{bytes_of}
use Rattle.base_words.proofs.Splices.{overlay-append, overlay-commute, splice-one}
use Rattle.base_words.proofs.Numbers.{bytes_of-append, length-bytes_of}
use Rattle.base_words.proofs.put_number.Goals as goal

-- the lowest byte is the last
last : (n x : ℕ) → bytes_of (n + 1) x ≡ bytes_of n (x / 256) ++ x % 256 ∷ []
unfolding bytes_of
last n x = bytes_of-append n 1 x ∙ rw div-one

-- a turn
turn : (l : List ℕ) (n x : ℕ) → overlay (set l n (x % 256)) (bytes_of n (x / 256)) ≡ overlay l (bytes_of (n + 1) x)
turn l n x =
    let low : ℕ = x % 256 in
    let rest : List ℕ = bytes_of n (x / 256) in
    let e : length rest ≡ n = length-bytes_of n (x / 256) in
    sym (ap (overlay l) (last n x) ∙ overlay-append l rest (low ∷ []) ∙ overlay-commute l rest (length rest) (low ∷ []) (le_refl (length rest))
    ∙ ap (λ (t : List ℕ). overlay t rest) (splice-one l (length rest) low ∙ rw e))

pub loop-i-init : goal.loop-i-init
loop-i-init c = refl

pub loop-i-preserved : goal.loop-i-preserved
loop-i-preserved c =
    let e : c.loop-i.i - 1 + 1 ≡ c.loop-i.i = omega arith in
    turn c.loop-i.s (c.loop-i.i - 1) c.loop-i.rest ∙ ap (λ (k : ℕ). overlay c.loop-i.s (bytes_of k c.loop-i.rest)) e ∙ c.loop-i.invariant

pub returns : goal.returns
unfolding bytes_of overlay
returns c =
    let e : 0 ≡ c.loop-i.i = omega arith in
    ap (λ (k : ℕ). overlay c.loop-i.s (bytes_of k c.loop-i.rest)) e ∙ c.loop-i.invariant
