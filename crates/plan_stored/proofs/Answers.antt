-- Every plan can be stored, and an accepted signature is short. Assumes nothing.
use Rattle.std.proofs.Common.{Ok, Option}
use mathlib.Core.Path.{◌≡◌, refl, sym, subst}
use mathlib.Core.Bool.{Bool}
use mathlib.Core.List.{List, [], ◌∷◌}
use Prim.Native.Nat.{ℕ, zero, suc, ◌+◌, ◌≤◌}
use native.Mathlib.Omega.{arith}
use lib.ListN.{length, get_or}
use Rattle.base_words.specs.Basics.{All}
use Rattle.base_words.proofs.Basics.{get_or-filled}
use Rattle.base_conventions.specs.declared.Convention.{Convention}
use Rattle.sig_types.specs.declared.ValueType.{ValueType}
use Rattle.sig_types.specs.Sizes.{size_of}
use Rattle.sig_items.specs.declared.Fault.{Fault}
use Rattle.sig_items.specs.Reading.{Reading, got, no}
use Rattle.sig_signatures.specs.Signature.{Signature}
use Rattle.sig_signatures.specs.Limits.{max_length, max_arguments}
use Rattle.sig_signatures.specs.Read.{signature_of}
use Rattle.sig_signatures.specs.Answer.{result_type}
use Rattle.sig_signatures.specs.Types.{types_of}
use Rattle.sig_signatures.proofs.Sound.{signature-read}
use Rattle.sig_signatures.proofs.Theorems.{accepted}
use Rattle.sig_signatures.proofs.Types.{length-of-types, types-each}
use Rattle.plan_places.specs.declared.Cursor.{Cursor}
use Rattle.plan_places.specs.declared.CallRules.{CallRules}
use Rattle.plan_places.specs.Helpers.{LawfulCalls}
use Rattle.plan_places.specs.Step.{rules_of, with_ellipsis, span_of, next_of}
use Rattle.plan_places.proofs.Bounds.{near_next, rules-lawful}
use Rattle.plan_places.proofs.Between.{step-between}
use Rattle.plan_places.proofs.Registers.{step-numbered}
use Rattle.plan_places.proofs.Marked.{lawful-marked, start-marked}
use Rattle.plan_plans.specs.Plan.{spans_of, no_span, hidden_in, start_in, plan_in, refused_plan, plan_answer}
use Rattle.plan_plans.specs.Call.{call_of, outcome_for}
use Rattle.plan_plans.specs.Disjoint.{span_at}
use Rattle.plan_plans.proofs.Fold.{Reached, reached-start, reached-more}
use Rattle.plan_plans.proofs.Apart.{in_table}
use Rattle.plan_plans.proofs.Calls.{called-got}
use Rattle.plan_plans.proofs.Printable.{answer-printable}
use Rattle.plan_stored_items.specs.Helpers.{Storable}
use Rattle.plan_stored.specs.Helpers.{Writable}

-- ---- each span

none-storable : Storable no_span
none-storable = record { numbered = omega arith; home = omega arith; memory = omega arith; short = omega arith; copy = omega arith }

span-storable : (r : CallRules) (k : Cursor) (v i : ℕ) (t : ValueType) (n : ℕ) → LawfulCalls r → n ≤ 256 → i ≤ max_arguments → Reached r k v i → Storable (span_of r k t n)
span-storable r k v i t n l h few g =
    let b = step-between r k t n in
    let d = near_next r k t n l h in
    record {
      numbered = step-numbered r k t n g.named;
      home = omega (arith, b.home-to, d.stack, g.stack);
      memory = omega (arith, b.memory-to, b.home-to, d.stack, g.stack);
      short = omega (arith, b.memory-from, b.memory-to, b.home-from, b.home-to, d.stack);
      copy = omega (arith, b.copy-to, d.copies, g.copies);
    }

spans-storable : (c : Convention) (r : CallRules) (k : Cursor) (v i : ℕ) (ts : List ValueType) → LawfulCalls r → All (λ (t : ValueType). size_of c t ≤ 256) ts → i + length ts ≤ max_arguments → Reached r k v i
    → (j : ℕ) → Storable (get_or (spans_of c r k ts) j no_span)
unfolding spans_of All
spans-storable c r k v i [] l small few g j = none-storable
spans-storable c r k v i (t ∷ ts) l small few g zero = span-storable r k v i t (size_of c t) l small.0 (omega arith) g
spans-storable c r k v i (t ∷ ts) l small few g (suc j) =
    spans-storable c r (next_of r k t (size_of c t)) (v + size_of c t) (i + 1) ts l small.1 (omega arith) (reached-more r k v i t (size_of c t) l small.0 g) j

plan-storable : (n : ℕ) (c : Convention) (v : Bool) (r : Option ValueType) (ts : List ValueType) → All (λ (t : ValueType). size_of c t ≤ 256) ts → length ts ≤ max_arguments
    → (i : ℕ) → Storable (span_at (plan_in n c v r ts) i)
unfolding plan_in
plan-storable n c v r ts small few i =
    let rules : CallRules = with_ellipsis v (rules_of c) in
    let lawful : LawfulCalls rules = lawful-marked v (rules_of c) (rules-lawful c) in
    let start : Reached rules (start_in c r) 0 0 =
    subst (λ (k : Cursor). Reached rules k 0 0) (start-marked v (rules_of c) (hidden_in c r)) (reached-start rules (hidden_in c r) lawful) in
    subst Storable (sym (in_table (spans_of c rules (start_in c r) ts) i)) (spans-storable c rules (start_in c r) 0 0 ts lawful small (omega arith) start i)

refused-storable : (f : Fault) (i : ℕ) → Storable (span_at (refused_plan f) i)
refused-storable f i = subst Storable (sym (get_or-filled no_span [] max_arguments i)) none-storable

spans-read : (s : List ℕ) (x : Reading Signature) → call_of s ≡ x → (i : ℕ) → Storable (span_at (plan_answer x) i)
unfolding plan_answer
spans-read s (got g next n) e i =
    let a = accepted s g next n (called-got (signature_of s) g next n e) in
    let c : Convention = g.convention in
    let many = length-of-types c g.arguments in
    plan-storable n c g.ellipsis (result_type c g.result) (types_of c g.arguments) (types-each c (λ t. size_of c t ≤ 256) (λ t h. h.small) g.arguments a.arguments) (omega (arith, a.within.few)) i
spans-read s (no f) e i = refused-storable f i

pub answer-storable : (s : List ℕ) → Writable (plan_answer (call_of s))
answer-storable s = record { printable = answer-printable s; spans = spans-read s (call_of s) refl }

-- ---- the length of an accepted signature

accepted-read : (s : List ℕ) (x : Reading Signature) (k : ℕ) → call_of s ≡ x → (plan_answer x).outcome ≡ Ok k → length s ≤ max_length
unfolding plan_answer plan_in
accepted-read s (got g next n) k e h = let r = signature-read s g next n (called-got (signature_of s) g next n e) in omega (arith, r.size, r.within.short)
accepted-read s (no f) k e h = let z : ◌≡◌ {A = ℕ} 0 1 = cc in absurd (omega arith)

pub accepted-short : (s : List ℕ) (k : ℕ) → outcome_for s ≡ Ok k → length s ≤ max_length
accepted-short s k h = accepted-read s (call_of s) k refl h
