-- What is folded from left to right does not look ahead: a list with more after it gives the same, and goes on from there. Over any
-- rules. Assumes nothing.
use mathlib.Core.Path.{◌≡◌, sym, ap, ◌∙◌}
use mathlib.Core.Bool.{Bool, true, false}
use mathlib.Core.List.{List, [], ◌∷◌, ◌++◌, append_assoc, append-nil}
use Prim.Native.Nat.{ℕ, suc, ◌+◌, ◌≤◌, ◌<◌}
use native.Mathlib.Omega.{arith}
use lib.ListN.{length, get_or, get_or-append}
use Rattle.base_words.specs.Basics.{pick}
use Rattle.base_conventions.specs.declared.Convention.{Convention}
use Rattle.sig_types.specs.declared.ValueType.{ValueType}
use Rattle.sig_types.specs.Sizes.{size_of}
use Rattle.sig_types.specs.Trees.{Trees, none, ◌▸◌, type_of, count_of}
use Rattle.plan_places.specs.declared.Cursor.{Cursor}
use Rattle.plan_places.specs.declared.Span.{Span}
use Rattle.plan_places.specs.declared.CallRules.{CallRules}
use Rattle.plan_places.specs.Step.{next_of, unclear_for, area_of}
use Rattle.plan_plans.specs.Plan.{spans_of, last_of, no_span, table_of}
use Rattle.sig_signatures.specs.Types.{types_of}
use Rattle.plan_plans.specs.Call.{first_unclear}
use Rattle.plan_plans.proofs.Fold.{length-spans, spans-append}
use Rattle.plan_plans.proofs.Apart.{in_table}
use Rattle.call_appending.specs.Appending.{joined}

-- ---- types

pub types-joined : (c : Convention) (ts us : Trees) → types_of c (joined ts us) ≡ types_of c ts ++ types_of c us
unfolding types_of joined
types-joined c ts none = sym (append-nil (types_of c ts))
types-joined c ts (us ▸ u) = ap (λ (l : List ValueType). l ++ type_of c u ∷ []) (types-joined c ts us) ∙ append_assoc (types_of c ts) (types_of c us) (type_of c u ∷ [])

pub joined-count : (ts us : Trees) → count_of ts ≤ count_of (joined ts us)
unfolding count_of joined
joined-count ts none = omega arith
joined-count ts (us ▸ u) = omega (arith, joined-count ts us)

-- ---- spans, cursors and sizes

pub area-grows : (c : Convention) (d e : Cursor) → d.stack ≤ e.stack → area_of c d ≤ area_of c e
unfolding area_of
area-grows c d e h = omega arith

-- the span of an argument in the plan's table
pub table-append : (c : Convention) (r : CallRules) (k : Cursor) (ts us : List ValueType) (i : ℕ) → i < length ts
    → get_or (table_of (spans_of c r k (ts ++ us))) i no_span ≡ get_or (table_of (spans_of c r k ts)) i no_span
table-append c r k ts us i h =
    let d : Cursor = last_of c r k ts in
    in_table (spans_of c r k (ts ++ us)) i
    ∙ ap (λ (l : List Span). get_or l i no_span) (spans-append c r k ts us)
    ∙ get_or-append (spans_of c r k ts) (spans_of c r d us) no_span i (omega (arith, length-spans c r k ts))
    ∙ sym (in_table (spans_of c r k ts) i)

-- ---- 29

-- the first unclear one is one of them
pub unclear-within : (c : Convention) (r : CallRules) (k : Cursor) (i : ℕ) (ts : List ValueType) (j : ℕ) → first_unclear c r k i ts ≡ suc j → j < i + length ts
unfolding first_unclear
unclear-within c r k i [] j e = absurd (omega arith)
unclear-within c r k i (t ∷ ts) j e = go (unclear_for r k t) (unclear-within c r (next_of r k t (size_of c t)) (suc i) ts j) e
  where
    go : {u : ℕ} (b : Bool) → (u ≡ suc j → j < suc i + length ts) → pick b (suc i) u ≡ suc j → j < i + suc (length ts)
    go true rest q = omega arith
    go false rest q = omega (arith, rest q)
