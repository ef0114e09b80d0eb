-- A turn of the loop that takes the values: what is left gives what the whole gives. Assumes nothing.
use mathlib.Core.Path.{◌≡◌, refl, sym, ap, ◌∙◌}
use mathlib.Core.List.{List, [], ◌∷◌, ◌++◌}
use Prim.Native.Nat.{ℕ, suc, ◌+◌, ◌≤◌}
use native.Mathlib.Omega.{arith}
use native.Mathlib.Numerals.{add-one}
use lib.ListN.{length, drop}
use Rattle.base_words.specs.Basics.{All}
use Rattle.base_words.specs.Splice.{overlay, splice}
use Rattle.base_words.proofs.Splices.{length-splice, splice-head, splice-nothing, splice-append}
use Rattle.plan_places.specs.declared.CallRules.{CallRules}
use Rattle.call_slots.specs.Buffers.{Buffers}
use Rattle.call_slots.specs.Placements.{Placement, value_at, values_at}
use Rattle.call_slots.specs.Helpers.{sizes_of}
use Rattle.call_unmarshal.specs.Helpers.{Readable}
use Rattle.call_unmarshal.proofs.Arguments.{value-length}

module _ (r : CallRules) (base : ℕ) (ps : List Placement) (b : Buffers) where
  -- i values, of v bytes, are taken, and the value buffer is l
  pub record Taking (l₀ l : List ℕ) (v i : ℕ) : Type 0 where
    pub same : length l ≡ length l₀
    pub each : All (λ (q : Placement). Readable r base q b) (drop i ps)
    pub left : v + sizes_of (drop i ps) ≡ length l₀
    pub rest : splice l v (values_at r base (drop i ps) b) ≡ splice l₀ 0 (values_at r base ps b)

  pub taking-start : (l : List ℕ) → All (λ (q : Placement). Readable r base q b) ps → sizes_of ps ≡ length l → Taking l l 0 0
  taking-start l each total = record { same = refl; each = each; left = omega arith; rest = refl }

  module _ (l₀ l : List ℕ) (v i : ℕ) (p : Placement) (e : drop i ps ≡ p ∷ drop (suc i) ps) (t : Taking l₀ l v i) where
    pub taking-readable : Readable r base p b
    unfolding All
    taking-readable =
        let each : Readable r base p b × All (λ (q : Placement). Readable r base q b) (drop (suc i) ps) = rw e at t.each in
        each.0

    pub taking-within : v + p.size ≤ length l
    unfolding sizes_of
    taking-within =
        let left : v + (p.size + sizes_of (drop (suc i) ps)) ≡ length l₀ = rw e at t.left in
        omega (arith, t.same)

    pub taking-more : Taking l₀ (splice l v (value_at r base p b)) (v + p.size) (i + 1)
    unfolding All sizes_of values_at
    taking-more =
        let each : Readable r base p b × All (λ (q : Placement). Readable r base q b) (drop (suc i) ps) = rw e at t.each in
        let left : v + (p.size + sizes_of (drop (suc i) ps)) ≡ length l₀ = rw e at t.left in
        let x : List ℕ = value_at r base p b in
        let y : List ℕ = values_at r base (drop (suc i) ps) b in
        let rest : splice l v (x ++ y) ≡ splice l₀ 0 (values_at r base ps b) = rw e at t.rest in
        let size : length x ≡ p.size = value-length r base p b taking-readable in
        record {
          same = length-splice l v x ∙ t.same;
          each = rw add-one each.1;
          left = rw add-one (omega arith);
          rest = rw add-one (ap (λ (n : ℕ). splice (splice l v x) (v + n) y) (sym size) ∙ sym (splice-append l v x y) ∙ rest);
        }

  pub taking-end : (l₀ l : List ℕ) (v i : ℕ) → drop i ps ≡ [] → Taking l₀ l v i → l ≡ overlay l₀ (values_at r base ps b)
  unfolding values_at
  taking-end l₀ l v i e t =
      let rest : splice l v [] ≡ splice l₀ 0 (values_at r base ps b) = rw e at t.rest in
      sym (splice-nothing l v) ∙ rest ∙ splice-head l₀ (values_at r base ps b)
