-- A table of n places that a loop fills from its start: what is in it so far and what is left make up the whole list. Assumes nothing.
use mathlib.Core.Path.{◌≡◌, refl, sym, ap, ◌∙◌}
use mathlib.Core.List.{List, [], ◌∷◌, ◌++◌, append_assoc, append-nil}
use Prim.Native.Nat.{ℕ, suc, ◌+◌, ◌-◌, ◌<◌}
use native.Mathlib.Omega.{arith}
use lib.ListN.{length, set, replicate, length-append}
use lib.Seq.{set_at}

module _ {A : Type 0} (n : ℕ) (x : A) where
  -- one place more
  pub filled_more : (done : List A) (i : ℕ) (y : A) → length done ≡ i → i < n → set (done ++ replicate (n - i) x) i y ≡ (done ++ y ∷ []) ++ replicate (n - (i + 1)) x
  filled_more done i y many h =
      let blank : n - i ≡ suc (n - (i + 1)) = omega arith in
      rw blank (set_at done x (replicate (n - (i + 1)) x) y i many) ∙ sym (append_assoc done (y ∷ []) (replicate (n - (i + 1)) x))

  -- the first i places of ss are filled, and `rest` is left of the whole list; each place after them holds x
  pub record Table (ss rest whole : List A) (i : ℕ) : Type 0 where
    pub done : List A
    pub many : length done ≡ i
    pub array : ss ≡ done ++ replicate (n - i) x
    pub joined : done ++ rest ≡ whole

  pub table-start : (whole : List A) → Table (replicate n x) whole whole 0
  table-start whole = record { done = []; many = refl; array = let e : n ≡ n - 0 = omega arith in ap (λ (m : ℕ). replicate m x) e; joined = refl }

  pub table_more : (y : A) (ss rest whole : List A) (i : ℕ) → i < n → Table ss (y ∷ rest) whole i → Table (set ss i y) rest whole (i + 1)
  table_more y ss rest whole i h g = record {
    done = g.done ++ y ∷ [];
    many = simp length-append (omega (arith, g.many));
    array = ap (λ (l : List A). set l i y) g.array ∙ filled_more g.done i y g.many h;
    joined = append_assoc g.done (y ∷ []) rest ∙ g.joined;
  }

  pub table-end : (ss whole : List A) (i : ℕ) → Table ss [] whole i → ss ≡ whole ++ replicate (n - length whole) x
  table-end ss whole i g =
      let same : g.done ≡ whole = sym (append-nil g.done) ∙ g.joined in
      let many : length whole ≡ i = ap length (sym same) ∙ g.many in
      g.array ∙ rw (same, many)
