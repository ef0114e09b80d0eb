-- The arguments of a whole plan: each is held by its span, and its places lie in the buffers. Assumes nothing.
-- ---- shape
use mathlib.Core.Path.{◌≡◌, refl, ap}
use mathlib.Core.Bool.{Bool, true, false}
use mathlib.Core.List.{List, [], ◌∷◌, ◌++◌}
use Prim.Native.Nat.{ℕ, ◌+◌, ◌≤◌}
use native.Mathlib.Omega.{arith}
use lib.ListN.{length}
use Rattle.base_words.specs.Basics.{pick, All}
use Rattle.base_conventions.specs.declared.Convention.{Convention}
use Rattle.sig_types.specs.declared.ValueType.{ValueType}
use Rattle.sig_types.specs.Sizes.{size_of}
use Rattle.plan_places.specs.declared.Cursor.{Cursor}
use Rattle.plan_places.specs.declared.CallRules.{CallRules}
use Rattle.plan_places.specs.declared.Span.{Span}
use Rattle.plan_places.specs.Step.{rules_of, with_ellipsis, span_of, next_of}
use Rattle.plan_places.specs.Spots.{image_bytes}
use Rattle.plan_places.proofs.Bounds.{Named, named-next}
use Rattle.plan_places.proofs.Between.{step-between}
use Rattle.plan_places.proofs.Registers.{step-numbered}
use Rattle.sig_signatures.specs.Types.{values_of}
use Rattle.plan_plans.specs.Plan.{spans_of, last_of}
use Rattle.plan_plans.proofs.Fold.{last-forward}
use Rattle.call_slots.specs.Placements.{Placement, placement, placements, copy_bytes}
use Rattle.call_slots.specs.Helpers.{Held, Fits, InImage, sizes_of}
use Rattle.call_slots.proofs.Typed.{Typed}
use Rattle.call_slots.proofs.Held.{step-held}

-- what fits in its places has its registers in an image
pub in_image_lem : (r : CallRules) (i a c : ℕ) (p : Placement) → Held r p → Fits a c p → i ≡ image_bytes → InImage r i p
in_image_lem r i a c p held fits image = record { held = held; general = fits.general; floating = fits.floating; image = image }

-- a copy has the value's bytes, or none
pub copy-in : (r : CallRules) (p : Placement) (v : List ℕ) (n : ℕ) → Held r p → length v ≤ p.size → p.span.copy.start + p.span.copy.length ≤ n
    → p.span.copy.start + length (copy_bytes p v) ≤ n
copy-in r p v n h l k = go p.span.indirect refl
  where
    go : (i : Bool) → p.span.indirect ≡ i → p.span.copy.start + length (pick i v []) ≤ n
    go true q = omega (arith, h.copied q)
    go false q = omega arith

-- the table's spans after the last argument's are no argument's
pub placements-table : (c : Convention) (r : CallRules) (k : Cursor) (ts : List ValueType) (more : List Span)
    → placements c ts (spans_of c r k ts ++ more) ≡ placements c ts (spans_of c r k ts)
unfolding placements spans_of
placements-table c r k [] more = refl
placements-table c r k (t ∷ ts) more =
    ap (λ (l : List Placement). placement t (size_of c t) (span_of r k t (size_of c t)) ∷ l) (placements-table c r (next_of r k t (size_of c t)) ts more)

-- their values make up the value buffer
pub placements-sizes : (c : Convention) (r : CallRules) (k : Cursor) (ts : List ValueType) → sizes_of (placements c ts (spans_of c r k ts)) ≡ values_of c ts
unfolding placements spans_of sizes_of values_of
placements-sizes c r k [] = refl
placements-sizes c r k (t ∷ ts) = ap (λ (n : ℕ). size_of c t + n) (placements-sizes c r (next_of r k t (size_of c t)) ts)

-- ---- each argument

pub all_held : (c : Convention) (v : Bool) (k : Cursor) (ts : List ValueType) → All (Typed c) ts
    → All (Held (with_ellipsis v (rules_of c))) (placements c ts (spans_of c (with_ellipsis v (rules_of c)) k ts))
unfolding placements spans_of All
all_held c v k [] h = tt
all_held c v k (t ∷ ts) h = (step-held c v k t h.0, all_held c v (next_of (with_ellipsis v (rules_of c)) k t (size_of c t)) ts h.1)

-- one that ends at or before the last cursor
step_fits : (r : CallRules) (k : Cursor) (t : ValueType) (n a m : ℕ) → Named r k → (next_of r k t n).stack ≤ a → (next_of r k t n).copies ≤ m
    → Fits a m (placement t n (span_of r k t n))
step_fits r k t n a m named s c =
    let b = step-between r k t n in
    let q = step-numbered r k t n named in
    record { general = q.1; floating = q.0; memory = omega arith; copies = omega arith }

pub all_fit : (c : Convention) (r : CallRules) (k : Cursor) (ts : List ValueType) (a m : ℕ) → Named r k → (last_of c r k ts).stack ≤ a → (last_of c r k ts).copies ≤ m
    → All (Fits a m) (placements c ts (spans_of c r k ts))
unfolding placements spans_of last_of All
all_fit c r k [] a m named s q = tt
all_fit c r k (t ∷ ts) a m named s q =
    let n : ℕ = size_of c t in
    let d : Cursor = next_of r k t n in
    let f = last-forward c r d ts in
    (step_fits r k t n a m named (omega (arith, f)) (omega (arith, f)), all_fit c r d ts a m (named-next r k t n named) s q)
