-- Every plan keeps its arguments apart and within bounds (specs/Disjoint.antt states it). Assumes nothing.
use Rattle.std.proofs.Common.{Some, None, Option}
use mathlib.Core.Path.{◌≡◌, refl, sym, subst}
use mathlib.Core.Bool.{Bool, true, false}
use mathlib.Core.List.{List, []}
use Prim.Native.Nat.{ℕ, ◌<◌}
use native.Mathlib.Omega.{arith}
use lib.ListN.{get_or, replicate}
use Rattle.base_words.specs.Basics.{pick}
use Rattle.base_words.proofs.Basics.{get_or-filled}
use Rattle.base_conventions.specs.declared.Convention.{Convention}
use Rattle.sig_types.specs.declared.ValueType.{ValueType}
use Rattle.sig_types.specs.Sizes.{size_of}
use Rattle.sig_items.specs.declared.Fault.{Fault}
use Rattle.sig_items.specs.Reading.{got, no}
use Rattle.sig_signatures.specs.Limits.{max_arguments}
use Rattle.sig_signatures.specs.Answer.{result_type}
use Rattle.sig_signatures.specs.Types.{types_of}
use Rattle.plan_places.specs.declared.Cursor.{Cursor}
use Rattle.plan_places.specs.declared.Span.{Span}
use Rattle.plan_places.specs.declared.ResultPlaces.{ResultPlaces}
use Rattle.plan_places.specs.declared.CallRules.{CallRules}
use Rattle.plan_places.specs.Values.{pointer}
use Rattle.plan_places.specs.Step.{rules_of, with_ellipsis, word_of, span_of, fresh_cursor, start_of, hidden_for, returning, result_of}
use Rattle.plan_places.specs.Places.{Numbered}
use Rattle.plan_places.specs.Spots.{Spot, area, copies, Owns, image_spot}
use Rattle.plan_places.proofs.Bounds.{named-fresh, named_start, area-holds, least-area}
use Rattle.plan_places.proofs.Marked.{named-marked, register-marked}
use Rattle.plan_places.proofs.Between.{Before, before-from, before-later, step-between, owns-before}
use Rattle.plan_places.proofs.Registers.{step-numbered, step-registers}
use Rattle.plan_plans.specs.Plan.{spans_of, no_span, hidden_in, result_places_in, start_in, last_cursor_in, plan_in, refused_plan, plan_answer}
use Rattle.plan_plans.specs.Disjoint.{span_at, Disjoint, PlansDisjoint, SpanWithin, PlanWithin, PlansWithin}
use Rattle.plan_plans.proofs.Fold.{last-forward, last-marked}
use Rattle.plan_plans.proofs.Apart.{in_table, span_in, none_owned, owned-from, owned-before, owned-register, owned-apart, span-numbered, span-homed, Homed}

-- ---- an accepted signature

-- the rules of its spans
abbrev rules_for : Convention → Bool → CallRules
rules_for c v = with_ellipsis v (rules_of c)

module _ (n : ℕ) (c : Convention) (v : Bool) (r : Option ValueType) (ts : List ValueType) where
  -- the table's span is the fold's
  in-plan : (i : ℕ) → span_at (plan_in n c v r ts) i ≡ span_in c (rules_for c v) (start_in c r) ts i
  unfolding plan_in
  in-plan i = in_table (spans_of c (rules_for c v) (start_in c r) ts) i

  owned : (i : ℕ) (x : Spot) → Owns (span_at (plan_in n c v r ts) i) x → Owns (span_in c (rules_for c v) (start_in c r) ts i) x
  owned i x o = subst (λ (s : Span). Owns s x) (in-plan i) o

-- a hidden address comes before the first argument
hidden-from : (c : Convention) (v : Bool) (ts : List ValueType) (i : ℕ) (x : Spot)
    → Owns (span_of (rules_of c) (fresh_cursor (rules_of c)) pointer (word_of (rules_of c))) x → Owns (span_in c (rules_for c v) (start_of (rules_of c) true) ts i) x → ⊥
unfolding start_of
hidden-from c v ts i x a b =
    before-from (start_of (rules_of c) true) x
    (owns-before (rules_of c) (fresh_cursor (rules_of c)) pointer (word_of (rules_of c)) x a)
    (owned-from c (rules_for c v) (start_of (rules_of c) true) ts i x b)

-- a hidden address is placed as a first argument that is a pointer, and the arguments start after it
pub hidden-address : (c : Convention) (r : Option ValueType) (s : Span) → result_places_in c r ≡ ResultPlaces.Hidden s
    → (s ≡ span_of (rules_of c) (fresh_cursor (rules_of c)) pointer (word_of (rules_of c))) × (start_in c r ≡ start_of (rules_of c) true)
unfolding result_of
hidden-address c None s e = let z : ◌≡◌ {A = ℕ} 0 1 = cc in absurd (omega arith)
hidden-address c (Some t) s e = go (hidden_for (rules_of c) t) e
  where
    address : Span
    address = span_of (rules_of c) (fresh_cursor (rules_of c)) pointer (word_of (rules_of c))

    held : Span
    held = span_of (returning (rules_of c)) (fresh_cursor (rules_of c)) t (size_of c t)

    go : (h : Bool) → pick h (ResultPlaces.Hidden address) (ResultPlaces.Registers held) ≡ ResultPlaces.Hidden s
        → (s ≡ address) × (start_of (rules_of c) h ≡ start_of (rules_of c) true)
    go true q = let same : s ≡ address = cc in (same, refl)
    go false q = let z : ◌≡◌ {A = ℕ} 0 1 = cc in absurd (omega arith)

hidden-apart : (c : Convention) (v : Bool) (r : Option ValueType) (ts : List ValueType) (s : Span) (i : ℕ) (x : Spot)
    → result_places_in c r ≡ ResultPlaces.Hidden s → Owns s x → Owns (span_in c (rules_for c v) (start_in c r) ts i) x → ⊥
hidden-apart c v r ts s i x e a b =
    let h = hidden-address c r s e in
    hidden-from c v ts i x (subst (λ (y : Span). Owns y x) h.0 a) (subst (λ (k : Cursor). Owns (span_in c (rules_for c v) k ts i) x) h.1 b)

plan-disjoint : (n : ℕ) (c : Convention) (v : Bool) (r : Option ValueType) (ts : List ValueType) → Disjoint (plan_in n c v r ts)
unfolding plan_in
plan-disjoint n c v r ts =
    let k : Cursor = start_in c r in
    record {
      apart = λ i j x h a b. owned-apart c (rules_for c v) k ts i j x h (owned n c v r ts i x a) (owned n c v r ts j x b);
      image = λ i j b h x y. owned-apart c (rules_for c v) k ts i j (image_spot b) h (owned n c v r ts i (image_spot b) x) (owned n c v r ts j (image_spot b) y);
      hidden = λ s i x e a b. hidden-apart c v r ts s i x e a (owned n c v r ts i x b);
    }

module _ (n : ℕ) (c : Convention) (v : Bool) (r : Option ValueType) (ts : List ValueType) where
  -- what an argument owns is before the end, which an ellipsis doesn't move
  owned-within : (i : ℕ) (x : Spot) → Owns (span_at (plan_in n c v r ts) i) x → Before (last_cursor_in c r ts) x
  owned-within i x o =
      subst (λ (e : Cursor). Before e x) (last-marked c v (rules_of c) (start_in c r) ts) (owned-before c (rules_for c v) (start_in c r) ts i x (owned n c v r ts i x o))

  argument-within : (i : ℕ) → SpanWithin (plan_in n c v r ts) (span_at (plan_in n c v r ts) i)
  unfolding plan_in
  argument-within i =
      let k : Cursor = start_in c r in
      let e : Cursor = last_cursor_in c r ts in
      let named = named-marked v (rules_of c) k (named_start (rules_of c) (hidden_in c r)) in
      let homed : Homed (span_at (plan_in n c v r ts) i) = subst Homed (sym (in-plan n c v r ts i)) (span-homed c (rules_for c v) k ts i) in
      record {
        registers = λ x o. register-marked v (rules_of c) x (owned-register c (rules_for c v) k ts i x named (owned n c v r ts i x o));
        numbered = subst Numbered (sym (in-plan n c v r ts i)) (span-numbered c (rules_for c v) k ts i named);
        area = λ b o. let l : b < e.stack = owned-within i (area b) o in omega (arith, area-holds c e);
        copies = λ b o. owned-within i (copies b) o;
        memory-from = homed.from;
        memory-to = homed.to;
      }

  -- what is before the first argument is before the end
  address-before : (x : Spot) → start_in c r ≡ start_of (rules_of c) true → Owns (span_of (rules_of c) (fresh_cursor (rules_of c)) pointer (word_of (rules_of c))) x → Before (last_cursor_in c r ts) x
  unfolding start_of
  address-before x e o =
      before-later (last-forward c (rules_of c) (start_in c r) ts) x
      (subst (λ (k : Cursor). Before k x) (sym e) (owns-before (rules_of c) (fresh_cursor (rules_of c)) pointer (word_of (rules_of c)) x o))

  address-within : start_in c r ≡ start_of (rules_of c) true → SpanWithin (plan_in n c v r ts) (span_of (rules_of c) (fresh_cursor (rules_of c)) pointer (word_of (rules_of c)))
  unfolding plan_in
  address-within q =
      let e : Cursor = last_cursor_in c r ts in
      let between = step-between (rules_of c) (fresh_cursor (rules_of c)) pointer (word_of (rules_of c)) in
      record {
        registers = λ x o. step-registers (rules_of c) (fresh_cursor (rules_of c)) pointer (word_of (rules_of c)) x (named-fresh (rules_of c)) o;
        numbered = step-numbered (rules_of c) (fresh_cursor (rules_of c)) pointer (word_of (rules_of c)) (named-fresh (rules_of c));
        area = λ b o. let l : b < e.stack = address-before (area b) q o in omega (arith, area-holds c e);
        copies = λ b o. address-before (copies b) q o;
        memory-from = between.memory-from;
        memory-to = between.memory-to;
      }

  plan-within : PlanWithin (plan_in n c v r ts)
  unfolding plan_in
  plan-within = record {
    arguments = argument-within;
    hidden = λ s e. let h = hidden-address c r s e in subst (SpanWithin (plan_in n c v r ts)) (sym h.0) (address-within h.1);
    least = λ m a. least-area c (last_cursor_in c r ts);
  }

-- ---- a refused one

none-at : (i : ℕ) → get_or (replicate max_arguments no_span) i no_span ≡ no_span
none-at i = get_or-filled no_span [] max_arguments i

none : (i : ℕ) (x : Spot) → Owns (get_or (replicate max_arguments no_span) i no_span) x → ⊥
none i x o = none_owned x (subst (λ (s : Span). Owns s x) (none-at i) o)

refused-disjoint : (f : Fault) → Disjoint (refused_plan f)
refused-disjoint f = record {
  apart = λ i j x h a b. none i x a;
  image = λ i j b h x y. none i (image_spot b) x;
  hidden = λ s i x e a b. none i x b;
}

refused-within : (f : Fault) → PlanWithin (refused_plan f)
refused-within f =
    let numbered : Numbered no_span = omega arith in
    let homed : Homed no_span = record { from = omega arith; to = omega arith } in
    record {
      arguments = λ i. record {
        registers = λ x o. absurd (none i x o);
        numbered = subst Numbered (sym (none-at i)) numbered;
        area = λ b o. absurd (none i (area b) o);
        copies = λ b o. absurd (none i (copies b) o);
        memory-from = (subst Homed (sym (none-at i)) homed).from;
        memory-to = (subst Homed (sym (none-at i)) homed).to;
      };
      hidden = λ s e. let z : ◌≡◌ {A = ℕ} 0 1 = cc in absurd (omega arith);
      least = λ m a. let z : ◌≡◌ {A = ℕ} 0 1 = cc in absurd (omega arith);
    }

-- ---- every answer of the planner

pub disjoint : PlansDisjoint
unfolding plan_answer
disjoint (got g next n) = plan-disjoint n g.convention g.ellipsis (result_type g.convention g.result) (types_of g.convention g.arguments)
disjoint (no f) = refused-disjoint f

pub within : PlansWithin
unfolding plan_answer
within (got g next n) = plan-within n g.convention g.ellipsis (result_type g.convention g.result) (types_of g.convention g.arguments)
within (no f) = refused-within f
