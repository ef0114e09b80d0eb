-- The laws of the fold, over any rules: lengths, and where its cursors are. Assumes nothing.
use mathlib.Core.Path.{◌≡◌, refl, ap}
use mathlib.Core.Bool.{Bool}
use mathlib.Core.List.{List, [], ◌∷◌, ◌++◌}
use Prim.Native.Nat.{ℕ, suc, ◌+◌, ◌*◌, ◌≤◌}
use native.Mathlib.Omega.{arith}
use lib.ListN.{length}
use Rattle.base_conventions.specs.declared.Convention.{Convention}
use Rattle.sig_types.specs.declared.ValueType.{ValueType}
use Rattle.sig_types.specs.Sizes.{size_of}
use Rattle.plan_places.specs.declared.Cursor.{Cursor}
use Rattle.plan_places.specs.declared.Span.{Span}
use Rattle.plan_places.specs.declared.CallRules.{CallRules}
use Rattle.plan_places.specs.Step.{with_ellipsis, span_of, next_of, start_of}
use Rattle.plan_places.specs.Helpers.{LawfulCalls, Roomy}
use Rattle.plan_places.proofs.Bounds.{Named, named_start, named-next, named-roomy, near_next, start-bytes}
use Rattle.plan_places.proofs.Marked.{next-marked}
use Rattle.plan_places.proofs.Between.{Forward, forward-same, forward-then, step-forward}
use Rattle.sig_signatures.specs.Limits.{max_arguments}
use Rattle.sig_signatures.specs.Types.{values_of}
use Rattle.plan_plans.specs.Plan.{spans_of, last_of}

pub length-spans : (c : Convention) (r : CallRules) (k : Cursor) (ts : List ValueType) → length (spans_of c r k ts) ≡ length ts
unfolding spans_of
length-spans c r k [] = refl
length-spans c r k (t ∷ ts) = ap suc (length-spans c r (next_of r k t (size_of c t)) ts)

pub last-named : (c : Convention) (r : CallRules) (k : Cursor) (ts : List ValueType) → Named r k → Named r (last_of c r k ts)
unfolding last_of
last-named c r k [] h = h
last-named c r k (t ∷ ts) h = last-named c r (next_of r k t (size_of c t)) ts (named-next r k t (size_of c t) h)

pub last-forward : (c : Convention) (r : CallRules) (k : Cursor) (ts : List ValueType) → Forward k (last_of c r k ts)
unfolding last_of
last-forward c r k [] = forward-same k
last-forward c r k (t ∷ ts) = forward-then (step-forward r k t (size_of c t)) (last-forward c r (next_of r k t (size_of c t)) ts)

-- an ellipsis moves no cursor
pub last-marked : (c : Convention) (v : Bool) (r : CallRules) (k : Cursor) (ts : List ValueType) → last_of c (with_ellipsis v r) k ts ≡ last_of c r k ts
unfolding last_of
last-marked c v r k [] = refl
last-marked c v r k (t ∷ ts) = rw (next-marked v r k t (size_of c t)) (last-marked c v r (next_of r k t (size_of c t)) ts)

-- more arguments after the first ones: they go on from there

pub spans-append : (c : Convention) (r : CallRules) (k : Cursor) (ts us : List ValueType) → spans_of c r k (ts ++ us) ≡ spans_of c r k ts ++ spans_of c r (last_of c r k ts) us
unfolding spans_of last_of
spans-append c r k [] us = refl
spans-append c r k (t ∷ ts) us = ap (λ (l : List Span). span_of r k t (size_of c t) ∷ l) (spans-append c r (next_of r k t (size_of c t)) ts us)

pub last-append : (c : Convention) (r : CallRules) (k : Cursor) (ts us : List ValueType) → last_of c r k (ts ++ us) ≡ last_of c r (last_of c r k ts) us
unfolding last_of
last-append c r k [] us = refl
last-append c r k (t ∷ ts) us = last-append c r (next_of r k t (size_of c t)) ts us

pub values-append : (c : Convention) (ts us : List ValueType) → values_of c (ts ++ us) ≡ values_of c ts + values_of c us
unfolding values_of
values-append c [] us = omega arith
values-append c (t ∷ ts) us = omega (arith, values-append c ts us)

-- one argument more

pub spans-more : (c : Convention) (r : CallRules) (k : Cursor) (ts : List ValueType) (t : ValueType)
    → spans_of c r k (ts ++ t ∷ []) ≡ spans_of c r k ts ++ span_of r (last_of c r k ts) t (size_of c t) ∷ []
unfolding spans_of
spans-more c r k ts t = spans-append c r k ts (t ∷ [])

pub last_more : (c : Convention) (r : CallRules) (k : Cursor) (ts : List ValueType) (t : ValueType) → last_of c r k (ts ++ t ∷ []) ≡ next_of r (last_of c r k ts) t (size_of c t)
unfolding last_of
last_more c r k ts t = last-append c r k ts (t ∷ [])

-- the same argument from the same cursor: its span, or the cursor after it
pub same_step : {A : Type 0} (f : Cursor → ValueType → ℕ → A) (c : Convention) {k l : Cursor} {t u : ValueType} → k ≡ l → t ≡ u → f k t (size_of c t) ≡ f l u (size_of c u)
same_step f c p q = cc

pub values-more : (c : Convention) (ts : List ValueType) (t : ValueType) → values_of c (ts ++ t ∷ []) ≡ values_of c ts + size_of c t
unfolding values_of
values-more c ts t = omega (arith, values-append c ts (t ∷ []))

-- where the cursor is, and the bytes of the values, after i arguments

pub record Reached (r : CallRules) (k : Cursor) (v i : ℕ) : Type 0 where
  pub named : Named r k
  pub stack : k.stack ≤ 264 * i + 264
  pub copies : k.copies ≤ 264 * i + 264
  pub small : v ≤ 256 * i

pub reached-start : (r : CallRules) (hidden : Bool) → LawfulCalls r → Reached r (start_of r hidden) 0 0
reached-start r hidden l =
    let b = start-bytes r hidden l in
    record { named = named_start r hidden; stack = omega arith; copies = omega arith; small = omega arith }

pub reached-more : (r : CallRules) (k : Cursor) (v i : ℕ) (t : ValueType) (n : ℕ) → LawfulCalls r → n ≤ 256 → Reached r k v i → Reached r (next_of r k t n) (v + n) (i + 1)
reached-more r k v i t n l h g =
    let b = near_next r k t n l h in
    record {
      named = named-next r k t n g.named;
      stack = omega (arith, g.stack, b.stack);
      copies = omega (arith, g.copies, b.copies);
      small = omega (arith, g.small);
    }

-- the registers and the bytes that the step asks for
pub reached-roomy : (r : CallRules) (k : Cursor) (v i : ℕ) → i ≤ max_arguments → Reached r k v i → Roomy k
reached-roomy r k v i few g = named-roomy r k g.named (omega (arith, g.stack)) (omega (arith, g.copies))
