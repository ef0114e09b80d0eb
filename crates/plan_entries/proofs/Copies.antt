-- Words copied one after the other are the head of a list, put over the table. Assumes nothing.
use Prim.Native.Nat.{ℕ, suc, ◌+◌, ◌≤◌, ◌<◌}
use mathlib.Core.Path.{◌≡◌, refl, sym, ap, ◌∙◌}
use mathlib.Core.List.{List, [], ◌∷◌}
use native.Mathlib.Omega.{arith}
use native.Mathlib.Numerals.{add-one}
use borrow.Author.Tests.{le-ltb, lt-ltb}
use lib.ListN.{length, get_or, set, take}
use lib.Seq.{take-suc, length-take-le}
use Rattle.base_words.specs.Splice.{overlay, overlay_whole}
use Rattle.base_words.proofs.Splices.{overlay-nothing, overlay-more}

pub tabled-nothing : (table : List ℕ) → table ≡ overlay_whole table []
tabled-nothing table = rw (le-ltb (length table) 0 (omega arith)) (overlay-nothing table)

module _ (table kept : List ℕ) where
  pub copy_start : table ≡ overlay table (take 0 kept)
  copy_start = overlay-nothing table

  pub copy_more : (i : ℕ) → i < length kept → (l : List ℕ) → l ≡ overlay table (take i kept) → set l i (get_or kept i 0) ≡ overlay table (take (i + 1) kept)
  copy_more i h l q =
      ap (λ (m : List ℕ). set m i (get_or kept i 0)) q
      ∙ sym (overlay-more table (take i kept) (get_or kept i 0) i (length-take-le i kept (omega arith)))
      ∙ ap (λ (w : List ℕ). overlay table w) (sym (rw (add-one i) (take-suc kept i 0 h)))

  module _ (n : ℕ) (within : n ≤ length kept) where
    many : length (take n kept) ≡ n
    many = length-take-le n kept within

    pub copy-none : length table < n → table ≡ overlay_whole table (take n kept)
    copy-none h = rw (lt-ltb (length table) (length (take n kept)) (omega (arith, many)))

    pub copy-all : n ≤ length table → overlay table (take n kept) ≡ overlay_whole table (take n kept)
    copy-all h = rw (le-ltb (length table) (length (take n kept)) (omega (arith, many)))
