-- The arguments of a signature one by one, as a loop over them goes. Assumes nothing.
use mathlib.Core.Path.{◌≡◌, refl, sym, ap, ◌∙◌}
use mathlib.Core.Bool.{true, false}
use mathlib.Core.List.{List, [], ◌∷◌}
use Prim.Native.Nat.{ℕ, zero, suc, ◌+◌, ◌≤◌, ◌<◌}
use native.Mathlib.Omega.{arith}
use native.Mathlib.Numerals.{add-one}
use lib.ListN.{length, get_or, drop}
use lib.Seq.{drop-cons}
use Rattle.base_words.specs.Basics.{All}
use Rattle.base_conventions.specs.declared.Convention.{Convention}
use Rattle.sig_types.specs.declared.IntegerKind.{IntegerKind}
use Rattle.sig_types.specs.declared.ValueType.{ValueType}
use Rattle.sig_types.specs.Sizes.{size_of}
use Rattle.sig_signatures.specs.declared.SignatureRead.{SignatureRead}
use Rattle.sig_signatures.specs.Answer.{argument}
use Rattle.sig_signatures.specs.Types.{types_in}
use Rattle.sig_signatures.proofs.Types.{types-drop, length_types}
use Rattle.plan_places.specs.declared.Span.{Span}
use Rattle.plan_plans.specs.declared.Plan.{Plan}
use Rattle.plan_plans.specs.Plan.{no_span}
use Rattle.call_slots.specs.Placements.{Placement, placement, placements}
use Rattle.call_slots.specs.Refusals.{or_else, first_of_all}
use Rattle.call_slots.specs.Arguments.{placements_in}
use Rattle.call_slots.proofs.Refusals.{or-refused, not-refused}
use Rattle.std.proofs.Common.{is_err}
use Rattle.call_slots.specs.Answer.{CallAnswer, call_done}

drop-placements : (c : Convention) (ts : List ValueType) (ss : List Span) (i : ℕ) → drop i (placements c ts ss) ≡ placements c (drop i ts) (drop i ss)
unfolding placements
drop-placements c ts ss zero = refl
drop-placements c [] ss (suc i) = refl
drop-placements c (t ∷ ts) [] (suc i) = nothing c (drop i ts)
  where
    nothing : (c : Convention) (us : List ValueType) → [] ≡ placements c us []
    nothing c [] = refl
    nothing c (u ∷ us) = refl
drop-placements c (t ∷ ts) (s ∷ ss) (suc i) = drop-placements c ts ss i

-- argument i of a signature and its plan
abbrev pub argument_at : SignatureRead → Plan → ℕ → Placement
argument_at g p i =
    placement (get_or g.arguments i (argument (ValueType.Integer IntegerKind.I8))).ty
    (size_of g.convention (get_or g.arguments i (argument (ValueType.Integer IntegerKind.I8))).ty) (get_or p.spans i no_span)

-- the argument at hand and those after it
pub next-argument : (g : SignatureRead) (p : Plan) (i : ℕ) → i < g.count → g.count ≤ length g.arguments → g.count ≤ length p.spans
    → drop i (placements_in g p) ≡ argument_at g p i ∷ drop (suc i) (placements_in g p)
unfolding placements_in placements
next-argument g p i h types spans =
    drop-placements g.convention (types_in g) p.spans i
    ∙ rw (types-drop g.count g.arguments i h types, drop-cons p.spans i no_span (omega arith))
    (ap (λ (l : List Placement). argument_at g p i ∷ l) (sym (drop-placements g.convention (types_in g) p.spans (suc i))))

-- none is left
pub no-argument : (g : SignatureRead) (p : Plan) (i : ℕ) → g.count ≤ i → g.count ≤ length g.arguments → drop i (placements_in g p) ≡ []
unfolding placements_in placements
no-argument g p i h types =
    drop-placements g.convention (types_in g) p.spans i ∙ rw (none (types_in g) i (omega (arith, length_types g.count g.arguments types)))
  where
    none : (ts : List ValueType) (i : ℕ) → length ts ≤ i → drop i ts ≡ []
    none [] zero h = refl
    none [] (suc i) h = refl
    none (t ∷ ts) zero h = absurd (omega arith)
    none (t ∷ ts) (suc i) h = none ts i (omega arith)

-- ---- a loop that tests them, each by f, of which it needs P

module _ (f : Placement → CallAnswer) (P : Placement → Type 0) (ps : List Placement) where
  -- i arguments are not refused
  pub record Checking (i : ℕ) : Type 0 where
    pub each : All P (drop i ps)
    pub rest : first_of_all f (drop i ps) ≡ first_of_all f ps

  pub checking-start : All P ps → Checking 0
  checking-start each = record { each = each; rest = refl }

  module _ (i : ℕ) (p : Placement) (e : drop i ps ≡ p ∷ drop (suc i) ps) (c : Checking i) where
    pub checking-ready : P p
    unfolding All
    checking-ready = let each : P p × All P (drop (suc i) ps) = rw e at c.each in each.0

    pub checking-refused : (a : CallAnswer) → a ≡ f p → is_err a ≡ true → a ≡ first_of_all f ps
    unfolding first_of_all
    checking-refused a q t =
        let rest : or_else (f p) (first_of_all f (drop (suc i) ps)) ≡ first_of_all f ps = rw e at c.rest in
        sym (or-refused a (first_of_all f (drop (suc i) ps)) t) ∙ ap (λ (x : CallAnswer). or_else x (first_of_all f (drop (suc i) ps))) q ∙ rest

    pub checking-more : (a : CallAnswer) → a ≡ f p → is_err a ≡ false → Checking (i + 1)
    unfolding All first_of_all
    checking-more a q t =
        let each : P p × All P (drop (suc i) ps) = rw e at c.each in
        let rest : or_else (f p) (first_of_all f (drop (suc i) ps)) ≡ first_of_all f ps = rw e at c.rest in
        let done : f p ≡ call_done = sym q ∙ not-refused a t in
        record { each = rw add-one each.1; rest = rw add-one (rw done at rest) }

  pub checking-end : (i : ℕ) → drop i ps ≡ [] → Checking i → call_done ≡ first_of_all f ps
  unfolding first_of_all
  checking-end i e c = rw e at c.rest
