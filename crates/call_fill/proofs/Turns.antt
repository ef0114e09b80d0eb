-- A turn of the filler's loop: the arguments that are left, put in the buffers as they are now, give what all arguments give from the
-- start. Assumes nothing.
use mathlib.Core.Path.{◌≡◌, refl, sym, ◌∙◌}
use mathlib.Core.List.{List, [], ◌∷◌, ◌++◌}
use Prim.Native.Nat.{ℕ, suc, ◌+◌, ◌-◌, ◌≤◌}
use native.Mathlib.Omega.{arith}
use native.Mathlib.Numerals.{add-one}
use lib.ListN.{length, take, drop}
use lib.Seq.{drop-drop}
use Rattle.base_words.specs.Basics.{All}
use Rattle.sig_signatures.specs.Answer.{argument}
use Rattle.plan_places.specs.declared.CallRules.{CallRules}
use Rattle.call_slots.specs.Buffers.{Buffers, Slot, put_all}
use Rattle.call_slots.specs.Placements.{Placement, slots_of, slots_of_all}
use Rattle.call_slots.specs.Helpers.{sizes_of}
use Rattle.call_slots.proofs.Buffers.{SameLengths, same_then, put_all-lengths, put_all-append}

-- ---- the loop
module _ (r : CallRules) (base : ℕ) (P : Placement → Type 0) (ps : List Placement) (values : List ℕ) (b₀ : Buffers) where
  -- i arguments are put, their values have v bytes, and the buffers are b
  pub record Going (b : Buffers) (v i : ℕ) : Type 0 where
    pub same : SameLengths b₀ b
    pub each : All P (drop i ps)
    pub left : v + sizes_of (drop i ps) ≡ length values
    pub rest : put_all (slots_of_all r base (drop i ps) (drop v values)) b ≡ put_all (slots_of_all r base ps values) b₀

pub going_start : (r : CallRules) (base : ℕ) (P : Placement → Type 0) (ps : List Placement) (values : List ℕ) (b : Buffers) → All P ps → sizes_of ps ≡ length values
    → Going r base P ps values b b 0 0
going_start r base P ps values b each total = record { same = record { image = refl; area = refl; copies = refl }; each = each; left = omega arith; rest = refl }

-- what is known of the argument at hand
pub record AtHand (P : Placement → Type 0) (p : Placement) (v n : ℕ) : Type 0 where
  pub ready : P p
  pub within : v + p.size ≤ n

module _ (r : CallRules) (base : ℕ) (P : Placement → Type 0) (ps : List Placement) (values : List ℕ) (b₀ b : Buffers) (v i : ℕ) (p : Placement)
    (e : drop i ps ≡ p ∷ drop (suc i) ps) (g : Going r base P ps values b₀ b v i) where
  pub at-hand : AtHand P p v (length values)
  unfolding All sizes_of
  at-hand =
      let each : P p × All P (drop (suc i) ps) = rw e at g.each in
      let left : v + (p.size + sizes_of (drop (suc i) ps)) ≡ length values = rw e at g.left in
      record { ready = each.0; within = omega arith }

  pub going_more : Going r base P ps values b₀ (put_all (slots_of r base p (take p.size (drop v values))) b) (v + p.size) (i + 1)
  unfolding All sizes_of slots_of_all
  going_more =
      let each : P p × All P (drop (suc i) ps) = rw e at g.each in
      let left : v + (p.size + sizes_of (drop (suc i) ps)) ≡ length values = rw e at g.left in
      let ss : List Slot = slots_of r base p (take p.size (drop v values)) in
      let us : List Slot = slots_of_all r base (drop (suc i) ps) (drop p.size (drop v values)) in
      let rest : put_all (ss ++ us) b ≡ put_all (slots_of_all r base ps values) b₀ = rw e at g.rest in
      record {
        same = same_then g.same (put_all-lengths ss b);
        each = rw add-one each.1;
        left = rw add-one (omega arith);
        rest = rw (add-one, ← drop-drop p.size v values) (sym (put_all-append ss us b) ∙ rest);
      }

pub going_end : (r : CallRules) (base : ℕ) (P : Placement → Type 0) (ps : List Placement) (values : List ℕ) (b₀ b : Buffers) (v i : ℕ) → drop i ps ≡ []
    → Going r base P ps values b₀ b v i → b ≡ put_all (slots_of_all r base ps values) b₀
unfolding put_all slots_of_all
going_end r base P ps values b₀ b v i e g = rw e at g.rest
