-- A turn of the planner's loop: what is planned so far and what is left make up the whole fold. Assumes nothing.
use Rattle.std.proofs.Common.{Ok, Option}
use mathlib.Core.Path.{◌≡◌, refl, subst, ◌∙◌}
use mathlib.Core.Bool.{Bool}
use mathlib.Core.List.{List, [], ◌∷◌}
use Prim.Native.Nat.{ℕ, suc, ◌+◌, ◌-◌, ◌≤◌, ◌<◌}
use native.Mathlib.Omega.{arith}
use native.Mathlib.Numerals.{add-one}
use lib.ListN.{length, set, drop, replicate, drop_of_length-le}
use Rattle.base_words.proofs.Tables.{Table, table-start, table_more, table-end}
use Rattle.base_conventions.specs.declared.Convention.{Convention}
use Rattle.sig_types.specs.declared.ValueType.{ValueType}
use Rattle.sig_types.specs.Sizes.{size_of}
use Rattle.sig_signatures.specs.Limits.{max_arguments}
use Rattle.sig_signatures.specs.Types.{values_of}
use Rattle.plan_places.specs.declared.Cursor.{Cursor}
use Rattle.plan_places.specs.declared.Span.{Span}
use Rattle.plan_places.specs.declared.CallRules.{CallRules}
use Rattle.plan_places.specs.Step.{rules_of, with_ellipsis, span_of, next_of, start_of, area_of}
use Rattle.plan_places.specs.Helpers.{LawfulCalls}
use Rattle.plan_places.proofs.Bounds.{rules-lawful}
use Rattle.plan_places.proofs.Marked.{lawful-marked, start-marked}
use Rattle.plan_plans.specs.declared.Plan.{Plan}
use Rattle.plan_plans.specs.Plan.{spans_of, last_of, result_places_in, no_span, table_of, start_in, last_cursor_in, plan_in}
use Rattle.plan_plans.proofs.Fold.{last-marked, Reached, reached-start, reached-more}

-- ---- the loop

module _ (c : Convention) (r : CallRules) (start : Cursor) (ts : List ValueType) where
  -- i arguments are planned: the table ss holds their spans, k is the next one's cursor, and their values have v bytes
  pub record Going (ss : List Span) (k : Cursor) (v i : ℕ) : Type 0 where
    pub within : i ≤ length ts
    pub table : Table max_arguments no_span ss (spans_of c r k (drop i ts)) (spans_of c r start ts) i
    pub last : last_of c r k (drop i ts) ≡ last_of c r start ts
    pub total : v + values_of c (drop i ts) ≡ values_of c ts
    pub reached : Reached r k v i

pub going_start : (c : Convention) (r : CallRules) (hidden : Bool) (ts : List ValueType) → LawfulCalls r
    → Going c r (start_of r hidden) ts (replicate max_arguments no_span) (start_of r hidden) 0 0
going_start c r hidden ts l = record {
  within = omega arith;
  table = table-start max_arguments no_span (spans_of c r (start_of r hidden) ts);
  last = refl;
  total = omega arith;
  reached = reached-start r hidden l;
}

-- with an ellipsis too the arguments start where the convention says
pub going-marked : (c : Convention) (v hidden : Bool) (ts : List ValueType)
    → Going c (with_ellipsis v (rules_of c)) (start_of (rules_of c) hidden) ts (replicate max_arguments no_span) (start_of (rules_of c) hidden) 0 0
going-marked c v hidden ts =
    let r : CallRules = with_ellipsis v (rules_of c) in
    subst (λ (k : Cursor). Going c r k ts (replicate max_arguments no_span) k 0 0) (start-marked v (rules_of c) hidden)
    (going_start c r hidden ts (lawful-marked v (rules_of c) (rules-lawful c)))

pub going_more : (c : Convention) (r : CallRules) (start : Cursor) (ts : List ValueType) (ss : List Span) (k : Cursor) (v i : ℕ) (t : ValueType)
    → LawfulCalls r → i < length ts → length ts ≤ max_arguments → size_of c t ≤ 256 → drop i ts ≡ t ∷ drop (suc i) ts
    → Going c r start ts ss k v i
    → Going c r start ts (set ss i (span_of r k t (size_of c t))) (next_of r k t (size_of c t)) (v + size_of c t) (i + 1)
unfolding spans_of last_of values_of
going_more c r start ts ss k v i t l h few sm d g =
    let n : ℕ = size_of c t in
    let s : Span = span_of r k t n in
    let total : v + (n + values_of c (drop (suc i) ts)) ≡ values_of c ts = rw d at g.total in
    record {
      within = omega arith;
      table = table_more max_arguments no_span s ss (spans_of c r (next_of r k t n) (drop (i + 1) ts)) (spans_of c r start ts) i (omega arith) (rw add-one (rw d at g.table));
      last = rw add-one (rw d at g.last);
      total = rw add-one (omega arith);
      reached = reached-more r k v i t n l sm g.reached;
    }

-- all arguments are planned: the table, the cursor and the size are the whole fold's
pub record Gone (c : Convention) (r : CallRules) (start : Cursor) (ts : List ValueType) (ss : List Span) (k : Cursor) (v : ℕ) : Type 0 where
  pub table : ss ≡ table_of (spans_of c r start ts)
  pub last : k ≡ last_of c r start ts
  pub total : v ≡ values_of c ts

pub going_end : (c : Convention) (r : CallRules) (start : Cursor) (ts : List ValueType) (ss : List Span) (k : Cursor) (v i : ℕ)
    → length ts ≤ i → Going c r start ts ss k v i → Gone c r start ts ss k v
unfolding spans_of last_of values_of table_of
going_end c r start ts ss k v i h g =
    let none : drop i ts ≡ [] = drop_of_length-le ts h in
    let total : v + 0 ≡ values_of c ts = rw none at g.total in
    record {
      table = table-end max_arguments no_span ss (spans_of c r start ts) i (rw none at g.table);
      last = rw none at g.last;
      total = omega arith;
    }

-- so that they make up the plan: p is what the loop leaves of it, by rules and from a cursor that are the plan's
pub gone-plan : (n : ℕ) (c : Convention) (v : Bool) (q : Option ValueType) (ts : List ValueType) (r : CallRules) (start k : Cursor) (p : Plan) (values area : ℕ)
    → r ≡ with_ellipsis v (rules_of c) → start ≡ start_in c q → Gone c r start ts p.spans k values
    → p.outcome ≡ Ok n → p.convention ≡ c → p.ellipsis ≡ v → p.result ≡ result_places_in c q → p.count ≡ length ts → area ≡ area_of c k
    → ◌≡◌ {A = Plan} (record {
      outcome = p.outcome;
      convention = p.convention;
      ellipsis = p.ellipsis;
      result = p.result;
      count = p.count;
      area = area;
      values = values;
      copies = k.copies;
      spans = p.spans;
    }) (plan_in n c v q ts)
unfolding plan_in
gone-plan n c v q ts r start k p values area rules from gone outcome convention ellipsis result count size =
    let last : k ≡ last_cursor_in c q ts = gone.last ∙ rw (rules, from) (last-marked c v (rules_of c) (start_in c q) ts) in
    let table : p.spans ≡ table_of (spans_of c (with_ellipsis v (rules_of c)) (start_in c q) ts) = gone.table ∙ rw (rules, from) in
    cc gone.total

-- what the loop leaves of the plan
pub record Kept (p q : Plan) : Type 0 where
  pub outcome : q.outcome ≡ p.outcome
  pub convention : q.convention ≡ p.convention
  pub ellipsis : q.ellipsis ≡ p.ellipsis
  pub result : q.result ≡ p.result
  pub count : q.count ≡ p.count
