-- Whatever bytes a signature has, its arguments are carried: each is held by its span and lies in its buffers. Assumes nothing.
use Rattle.std.proofs.Common.{Option}
use mathlib.Core.Path.{◌≡◌, refl, sym, ap, ◌∙◌, subst}
use mathlib.Core.Bool.{Bool}
use mathlib.Core.List.{List, [], ◌++◌}
use Prim.Native.Nat.{ℕ, ◌+◌, ◌-◌, ◌≤◌}
use native.Mathlib.Omega.{arith}
use lib.ListN.{length, replicate, length-append}
use Rattle.base_words.specs.Basics.{All}
use Rattle.base_conventions.specs.declared.Convention.{Convention}
use Rattle.sig_types.specs.declared.ValueType.{ValueType}
use Rattle.sig_types.specs.Trees.{count_of}
use Rattle.sig_items.specs.Reading.{Reading, got, no}
use Rattle.sig_signatures.specs.Limits.{max_arguments}
use Rattle.sig_signatures.specs.declared.SignatureRead.{SignatureRead}
use Rattle.sig_signatures.specs.Signature.{Signature}
use Rattle.sig_signatures.specs.Read.{signature_of}
use Rattle.sig_signatures.specs.Answer.{result_type, signature_answer}
use Rattle.sig_signatures.proofs.Theorems.{accepted}
use Rattle.sig_signatures.specs.Types.{values_of, types_of}
use Rattle.sig_signatures.specs.Helpers.{Plannable}
use Rattle.sig_signatures.proofs.Types.{table-types, answer-plannable, length-of-types}
use Rattle.plan_places.specs.declared.Cursor.{Cursor}
use Rattle.plan_places.specs.declared.CallRules.{CallRules}
use Rattle.plan_places.specs.declared.Span.{Span}
use Rattle.plan_places.specs.Step.{rules_of, with_ellipsis}
use Rattle.plan_places.proofs.Marked.{named-marked}
use Rattle.plan_places.proofs.Bounds.{named_start, area-holds}
use Rattle.plan_plans.specs.declared.Plan.{Plan}
use Rattle.plan_plans.specs.Plan.{spans_of, last_of, no_span, table_of, hidden_in, start_in, last_cursor_in, plan_in, plan_answer}
use Rattle.plan_plans.specs.Helpers.{planned}
use Rattle.plan_plans.proofs.Fold.{length-spans, last-marked}
use Rattle.plan_plans.proofs.Answers.{planned-answer}
use Rattle.call_slots.specs.Placements.{Placement, placements}
use Rattle.call_slots.specs.Helpers.{Held, Fits, sizes_of, Tabled}
use Rattle.call_slots.specs.Arguments.{placements_in, plan_for, rules_in}
use Rattle.call_slots.proofs.Typed.{all_typed}
use Rattle.call_slots.proofs.Planned.{placements-table, placements-sizes, all_held, all_fit}

-- What holds of every signature's arguments, whatever its bytes (`carried`): there are at most 128; each is held by its span, and
-- lies in the area and the copies of its plan; their sizes are those of the values.
pub record Carried (g : SignatureRead) (p : Plan) : Type 0 where
  pub tables : Tabled g p
  pub held : All (Held (rules_in g)) (placements_in g p)
  pub fit : All (Fits p.area p.copies) (placements_in g p)
  pub total : sizes_of (placements_in g p) ≡ p.values

-- the arguments of an accepted signature are those of its plan's fold
pub arguments-got : (g : Signature) (next n : ℕ)
    → placements_in (signature_answer (got g next n)) (plan_answer (got g next n))
    ≡ placements g.convention (types_of g.convention g.arguments)
    (spans_of g.convention (with_ellipsis g.ellipsis (rules_of g.convention)) (start_in g.convention (result_type g.convention g.result)) (types_of g.convention g.arguments))
unfolding placements_in plan_answer plan_in table_of
arguments-got g next n =
    let c : Convention = g.convention in
    let r : CallRules = with_ellipsis g.ellipsis (rules_of c) in
    let k : Cursor = start_in c (result_type c g.result) in
    let ts : List ValueType = types_of c g.arguments in
    let ss : List Span = spans_of c r k ts in
    ap (λ (l : List ValueType). placements c l (ss ++ replicate (max_arguments - length ss) no_span)) (table-types c g.arguments)
    ∙ placements-table c r k ts (replicate (max_arguments - length ss) no_span)

-- every slot of the plan's table is there
planned-room : (n : ℕ) (c : Convention) (v : Bool) (r : Option ValueType) (ts : List ValueType) (m : ℕ) → length ts ≡ m → m ≤ max_arguments → m ≤ length (plan_in n c v r ts).spans
unfolding plan_in table_of
planned-room n c v r ts m e h =
    let q : CallRules = with_ellipsis v (rules_of c) in
    let ss : List Span = spans_of c q (start_in c r) ts in
    omega (arith, length-spans c q (start_in c r) ts, length-append ss (replicate (max_arguments - length ss) no_span))

-- an ellipsis moves no cursor: the plan's sizes are those without one
planned-fit : (n : ℕ) (c : Convention) (v : Bool) (r : Option ValueType) (ts : List ValueType)
    → All (Fits (plan_in n c v r ts).area (plan_in n c v r ts).copies) (placements c ts (spans_of c (with_ellipsis v (rules_of c)) (start_in c r) ts))
unfolding plan_in
planned-fit n c v r ts =
    let last : last_of c (with_ellipsis v (rules_of c)) (start_in c r) ts ≡ last_cursor_in c r ts = last-marked c v (rules_of c) (start_in c r) ts in
    all_fit c (with_ellipsis v (rules_of c)) (start_in c r) ts _ _ (named-marked v (rules_of c) (start_in c r) (named_start (rules_of c) (hidden_in c r)))
    (rw last (area-holds c (last_cursor_in c r ts))) (rw last (omega arith))

pub planned-values : (n : ℕ) (c : Convention) (v : Bool) (r : Option ValueType) (ts : List ValueType) → values_of c ts ≡ (plan_in n c v r ts).values
unfolding plan_in
planned-values n c v r ts = refl

-- a refused signature has no arguments
none-all : (P : Placement → Type 0) → All P []
unfolding All
none-all P = tt

pub carried : (s : List ℕ) → Carried (signature_answer (signature_of s)) (plan_answer (signature_of s))
unfolding plan_answer placements_in placements sizes_of
carried s = go (signature_of s) refl
  where
    go : (x : Reading Signature) → signature_of s ≡ x → Carried (signature_answer x) (plan_answer x)
    go (got g next n) e =
        let c : Convention = g.convention in
        let r : (Option ValueType) = result_type c g.result in
        let v : Bool = g.ellipsis in
        let ts : List ValueType = types_of c g.arguments in
        let k : Cursor = start_in c r in
        let a = accepted s g next n e in
        let same = arguments-got g next n in
        let plan = subst Plannable (ap signature_answer e) (answer-plannable s) in
        record {
          tables = record {
            few = a.within.few;
            types = plan.room;
            spans = planned-room n c v r ts (count_of g.arguments) (length-of-types c g.arguments) a.within.few;
          };
          held = subst (All (Held (with_ellipsis v (rules_of c)))) (sym same) (all_held c v k ts (all_typed c g.arguments a.arguments));
          fit = subst (All (Fits (plan_in n c v r ts).area (plan_in n c v r ts).copies)) (sym same) (planned-fit n c v r ts);
          total = ap sizes_of same ∙ placements-sizes c (with_ellipsis v (rules_of c)) k ts ∙ planned-values n c v r ts;
        }
    go (no f) e = record { tables = record { few = omega arith; types = omega arith; spans = omega arith }; held = none-all _; fit = none-all _; total = refl }

-- ---- the same of what the reader and the planner answered

module _ (s : List ℕ) (g : SignatureRead) (p : Plan) (read : g ≡ signature_answer (signature_of s)) where
  pub plan-same : p ≡ planned g → p ≡ plan_for s
  plan-same e = e ∙ ap planned read ∙ planned-answer (signature_of s)

  pub carried_same : p ≡ plan_for s → Carried g p
  carried_same e = rw (read, e) (carried s)
