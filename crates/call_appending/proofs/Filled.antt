-- Filling where arguments are appended (specs/Filled.antt states it). Assumes nothing.
use mathlib.Core.Path.{◌≡◌, refl, sym, ap, ap₂, ◌∙◌}
use mathlib.Core.List.{List, [], ◌∷◌, ◌++◌, append_assoc}
use Prim.Native.Nat.{ℕ, ◌+◌, ◌≤◌}
use native.Mathlib.Omega.{arith}
use lib.ListN.{length, take, drop, length-drop}
use lib.Seq.{take-append-le, drop-append-le}
use Rattle.base_conventions.specs.declared.Convention.{Convention}
use Rattle.sig_types.specs.declared.ValueType.{ValueType}
use Rattle.sig_types.specs.Sizes.{size_of}
use Rattle.sig_types.specs.Trees.{Trees}
use Rattle.sig_items.specs.Reading.{Reading, got}
use Rattle.sig_signatures.specs.Signature.{Signature}
use Rattle.sig_signatures.specs.Read.{signature_of}
use Rattle.sig_signatures.specs.Answer.{result_type, signature_answer}
use Rattle.plan_places.specs.declared.Cursor.{Cursor}
use Rattle.plan_places.specs.declared.CallRules.{CallRules}
use Rattle.plan_places.specs.declared.ResultPlaces.{ResultPlaces}
use Rattle.plan_places.specs.Step.{rules_of, with_ellipsis, word_of, span_of, next_of}
use Rattle.plan_plans.specs.Plan.{spans_of, last_of, start_in, plan_in, plan_answer}
use Rattle.sig_signatures.specs.Types.{values_of, types_of}
use Rattle.call_slots.specs.Buffers.{Slot}
use Rattle.call_slots.specs.Placements.{Placement, placement, placements, slots_of, slots_of_all, hidden_slots}
use Rattle.call_slots.specs.Helpers.{sizes_of}
use Rattle.call_slots.specs.Arguments.{placements_in, arguments_of, plan_for, rules_in, rules_for}
use Rattle.call_slots.proofs.Planned.{placements-sizes}
use Rattle.call_slots.proofs.Answered.{arguments-got}
use Rattle.call_fill.specs.Fill.{filled_slots}
use Rattle.call_appending.specs.Filled.{Begins, FillingStays}
use Rattle.call_appending.proofs.Folds.{types-joined}
use Rattle.call_appending.proofs.Encoded.{extended}
use Rattle.call_appending.proofs.Theorems.{kept, longer-reads}

pub placements-append : (c : Convention) (r : CallRules) (k : Cursor) (ts us : List ValueType)
    → placements c (ts ++ us) (spans_of c r k (ts ++ us)) ≡ placements c ts (spans_of c r k ts) ++ placements c us (spans_of c r (last_of c r k ts) us)
unfolding placements spans_of last_of
placements-append c r k [] us = refl
placements-append c r k (t ∷ ts) us =
    ap (λ (l : List Placement). placement t (size_of c t) (span_of r k t (size_of c t)) ∷ l) (placements-append c r (next_of r k t (size_of c t)) ts us)

pub slots-append : (r : CallRules) (base : ℕ) (ps qs : List Placement) (v w : List ℕ) → length v ≡ sizes_of ps
    → slots_of_all r base (ps ++ qs) (v ++ w) ≡ slots_of_all r base ps v ++ slots_of_all r base qs w
unfolding slots_of_all sizes_of
slots-append r base [] qs [] w h = refl
slots-append r base [] qs (x ∷ v) w h = absurd (omega arith)
slots-append r base (p ∷ ps) qs v w h =
    let own = take-append-le p.size v w (omega arith) in
    let others = drop-append-le p.size v w (omega arith) in
    let rest = slots-append r base ps qs (drop p.size v) w (omega (arith, length-drop p.size v)) in
    ap₂ (λ (x y : List Slot). x ++ y) (ap (slots_of r base p) own) (ap (slots_of_all r base (ps ++ qs)) others ∙ rest)
    ∙ sym (append_assoc (slots_of r base p (take p.size v)) (slots_of_all r base ps (drop p.size v)) (slots_of_all r base qs w))

-- the arguments of g with us appended: those of g, and others
module _ (g : Signature) (us : Trees) where
  c : Convention
  c = g.convention

  abbrev r : CallRules
  r = with_ellipsis g.ellipsis (rules_of g.convention)

  k : Cursor
  k = start_in g.convention (result_type g.convention g.result)

  pub others : List Placement
  others = placements c (types_of c us) (spans_of c r (last_of c r k (types_of c g.arguments)) (types_of c us))

  pub arguments-extended : (next n l m : ℕ)
      → placements_in (signature_answer (got (extended g us) l m)) (plan_answer (got (extended g us) l m))
      ≡ placements_in (signature_answer (got g next n)) (plan_answer (got g next n)) ++ others
  unfolding c k others
  arguments-extended next n l m =
      arguments-got (extended g us) l m
      ∙ ap (λ (ts : List ValueType). placements c ts (spans_of c r k ts)) (types-joined c g.arguments us)
      ∙ placements-append c r k (types_of c g.arguments) (types_of c us)
      ∙ ap (λ (ps : List Placement). ps ++ others) (sym (arguments-got g next n))

-- what the values of g's arguments come to
arguments-total : (g : Signature) (next n : ℕ) → sizes_of (placements_in (signature_answer (got g next n)) (plan_answer (got g next n))) ≡ (plan_answer (got g next n)).values
unfolding plan_answer plan_in
arguments-total g next n = ap sizes_of (arguments-got g next n) ∙ placements-sizes g.convention _ _ (types_of g.convention g.arguments)

-- the slots of a reading's call
abbrev slots_in : Reading Signature → List ℕ → ℕ → ℕ → List Slot
slots_in x values base hidden =
    hidden_slots (word_of (rules_in (signature_answer x))) (plan_answer x).result hidden
    ++ slots_of_all (rules_in (signature_answer x)) base (placements_in (signature_answer x) (plan_answer x)) values

slots_kept : (g : Signature) (us : Trees) (next n l m : ℕ) (values more : List ℕ) (base hidden : ℕ) → length values ≡ (plan_answer (got g next n)).values
    → Begins (slots_in (got g next n) values base hidden) (slots_in (got (extended g us) l m) (values ++ more) base hidden)
slots_kept g us next n l m values more base hidden e =
    let q : CallRules = with_ellipsis g.ellipsis (rules_of g.convention) in
    let ps : List Placement = placements_in (signature_answer (got g next n)) (plan_answer (got g next n)) in
    let hs : List Slot = hidden_slots (word_of q) (plan_answer (got g next n)).result hidden in
    let rest : List Slot = slots_of_all q base (others g us) more in
    record {
      rest = rest;
      whole =
          ap₂ (λ (x : ResultPlaces) (ys : List Slot). hidden_slots (word_of q) x hidden ++ ys) (kept g us next n l m).result
          (ap (λ (x : List Placement). slots_of_all q base x (values ++ more)) (arguments-extended g us next n l m)
          ∙ slots-append q base ps (others g us) values more (e ∙ sym (arguments-total g next n)))
          ∙ sym (append_assoc hs (slots_of_all q base ps values) rest);
    }

pub filling-stays : FillingStays
unfolding filled_slots arguments_of
filling-stays s u a values more base hidden =
    rw (a.read, longer-reads s u a)
    (slots_kept a.shorter a.appends.more a.next a.items a.longer-next a.longer-items values more base hidden)
