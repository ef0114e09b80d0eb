-- The loop that measures: the arguments that are read and placed so far, and what each way out of it gives. Assumes nothing.
use Rattle.sig_signatures.specs.declared.Head.{Head}
use Rattle.sig_items.specs.declared.Item.{Item}
use Rattle.std.proofs.Common.{Ok, Result, Option}
use mathlib.Core.Path.{◌≡◌, refl, sym, ap, ◌∙◌}
use mathlib.Core.Bool.{Bool, true, false}
use mathlib.Core.List.{List}
use Prim.Native.Nat.{ℕ, ◌+◌, ◌≤◌, ◌<◌}
use native.Mathlib.Omega.{arith}
use borrow.Author.Tests.{lt-ltb, le-ltb}
use lib.ListN.{length}
use lib.Dec.{ltb}
use Rattle.base_words.specs.Basics.{pick}
use Rattle.base_conventions.specs.declared.Convention.{Convention}
use Rattle.sig_types.specs.declared.ValueType.{ValueType}
use Rattle.sig_types.specs.Sizes.{size_of}
use Rattle.sig_types.specs.Trees.{Tree, Trees, none, ◌▸◌, type_of}
use Rattle.sig_items.specs.declared.Refusal.{Refusal}
use Rattle.sig_items.specs.declared.Fault.{Fault}
use Rattle.sig_items.specs.Reading.{Reading, fault, got, no, later}
use Rattle.sig_items.specs.Read.{item_at}
use Rattle.sig_items.specs.Answer.{item_answer, item_found}
use Rattle.sig_items.proofs.Loop.{item-answered}
use Rattle.sig_signatures.specs.Limits.{max_arguments}
use Rattle.sig_signatures.specs.Signature.{ResultTree, Signature}
use Rattle.sig_signatures.specs.Read.{arguments_in, signature_of, head_of}
use Rattle.sig_signatures.specs.Answer.{result_type, head_answer, signature_answer, head_found}
use Rattle.sig_signatures.proofs.Laws.{then_arguments, signature-then}
use Rattle.sig_signatures.proofs.Loop.{Turn, turn-start, turn_more, turn_last}
use Rattle.sig_signatures.specs.Types.{values_of, types_of}
use Rattle.sig_signatures.proofs.Types.{table-types, length-of-types}
use Rattle.plan_places.specs.declared.Cursor.{Cursor}
use Rattle.plan_places.specs.declared.CallRules.{CallRules}
use Rattle.plan_places.specs.Step.{rules_of, next_of, unclear_for, start_of, area_of}
use Rattle.plan_places.specs.Helpers.{LawfulCalls, unclear_after}
use Rattle.plan_plans.specs.declared.Measured.{Measured}
use Rattle.plan_plans.specs.Plan.{last_of, start_in, plan_in, refused_plan, plan_answer, measure_of}
use Rattle.plan_plans.specs.Helpers.{plan_with, unclear_of, unclear_with}
use Rattle.plan_plans.specs.Call.{first_unclear}
use Rattle.plan_plans.proofs.Calls.{unclear-more, same-unclear}
use Rattle.plan_plans.proofs.Fold.{last_more, same_step, values-more, Reached, reached-start, reached-more}

-- ---- the loop

-- reading on from here gives all arguments; the cursor k, the v bytes of values and the first unclear one, number u, are those of the arguments ts so far
pub record SoFar (c : Convention) (s : List ℕ) (at e : ℕ) (r : CallRules) (start : Cursor) (ts : Trees) (k : Cursor) (v u count next n : ℕ) : Type 0 where
  pub turn : Turn c s at e ts count next n
  pub last : k ≡ last_of c r start (types_of c ts)
  pub total : v ≡ values_of c (types_of c ts)
  pub unclear : u ≡ first_unclear c r start 0 (types_of c ts)
  pub reached : Reached r k v count

-- of some arguments
pub record Measuring (c : Convention) (s : List ℕ) (at e : ℕ) (r : CallRules) (start : Cursor) (k : Cursor) (v u count next n : ℕ) : Type 0 where
  pub ts : Trees
  pub so_far : SoFar c s at e r start ts k v u count next n

-- so many arguments are read
count-types : (c : Convention) (s : List ℕ) (at e : ℕ) (ts : Trees) (count next n : ℕ) → Turn c s at e ts count next n → count ≡ 0 + length (types_of c ts)
count-types c s at e ts count next n t = omega (arith, t.many, length-of-types c ts)

module _ (c : Convention) (s : List ℕ) (at e : ℕ) (r : CallRules) where
  pub none_so_far : (hidden : Bool) → LawfulCalls r → at ≤ e → SoFar c s at e r (start_of r hidden) none (start_of r hidden) 0 0 0 at 1
  unfolding types_of last_of values_of first_unclear
  none_so_far hidden l h = record { turn = turn-start c s at e h; last = refl; total = refl; unclear = refl; reached = reached-start r hidden l }

  pub measuring-start : (hidden : Bool) → LawfulCalls r → at ≤ e → Measuring c s at e r (start_of r hidden) (start_of r hidden) 0 0 0 at 1
  measuring-start hidden l h = record { ts = none; so_far = none_so_far hidden l h }

  -- one argument more, of the type t
  pub more-so-far : (start : Cursor) (ts : Trees) (k : Cursor) (v u count next n : ℕ) → SoFar c s at e r start ts k v u count next n → LawfulCalls r → (t : ValueType) → size_of c t ≤ 256
      → (tree : Tree) → t ≡ type_of c tree → (after m : ℕ) → Turn c s at e (ts ▸ tree) (count + 1) after m
      → SoFar c s at e r start (ts ▸ tree) (next_of r k t (size_of c t)) (v + size_of c t) (unclear_after u (unclear_for r k t) count) (count + 1) after m
  unfolding types_of
  more-so-far start ts k v u count next n g l t small tree same after m turn =
      let so_far : List ValueType = types_of c ts in
      let w : ValueType = type_of c tree in
      record {
        turn = turn;
        last = same_step (next_of r) c g.last same ∙ sym (last_more c r start so_far w);
        total = omega (arith, g.total, ap (size_of c) same, values-more c so_far w);
        unclear = same-unclear r g.unclear g.last same (count-types c s at e ts count next n g.turn) ∙ sym (unclear-more c r start 0 so_far w);
        reached = reached-more r k v count t (size_of c t) l small g.reached;
      }

  module _ (start k : Cursor) (v u count next n : ℕ) (m : Measuring c s at e r start k v u count next n) where
    pub measuring-more : LawfulCalls r → next < e → (count ≡ max_arguments → ⊥) → (x : Result Item Fault) → x ≡ item_answer c (item_at c 8 s e next) → (t : ValueType) (after j : ℕ) →
        x ≡ item_found t after j → Measuring c s at e r start (next_of r k t (size_of c t)) (v + size_of c t) (unclear_after u (unclear_for r k t) count) (count + 1) after (n + j)
    measuring-more l h some x found t after j q =
        let a = item-answered c 8 s e next x t after j (omega arith) found q in
        let more = turn_more c s at e m.ts count next n m.so_far.turn h some x found t after j q in
        record { ts = m.ts ▸ more.tree; so_far = more-so-far start m.ts k v u count next n m.so_far l t a.sized.small more.tree more.same after (n + j) more.turn }

-- ---- the answers

module _ (c : Convention) (s : List ℕ) (at e : ℕ) (result : Option ValueType) (earlier : ℕ) where
  pub measure-no : (f : Fault) → arguments_in c s at e ≡ no f →
      measure_of (refused_plan (later earlier f)) ≡ measure_of (plan_with c false result earlier (length s) (arguments_in c s at e))
  measure-no f q = rw q

  pub unclear-no : (f : Fault) → arguments_in c s at e ≡ no f → 0 ≡ unclear_with c result (length s) (arguments_in c s at e)
  unclear-no f q = rw q

  module _ (k : Cursor) (v u count next n : ℕ) (m : Measuring c s at e (rules_of c) (start_in c result) k v u count next n) (last : e ≤ next) where
    pub measure-trailing : next < length s →
        measure_of (refused_plan (fault Refusal.TrailingBytes next (earlier + n))) ≡ measure_of (plan_with c false result earlier (length s) (arguments_in c s at e))
    measure-trailing h = rw (turn_last c s at e m.ts count next n m.so_far.turn last, lt-ltb next (length s) h)

    pub measure-end : length s ≤ next →
        ◌≡◌ {A = Measured} (record { outcome = Ok (earlier + n); area = area_of c k; values = v; copies = k.copies })
        (measure_of (plan_with c false result earlier (length s) (arguments_in c s at e)))
    unfolding plan_in
    measure-end h = rw (turn_last c s at e m.ts count next n m.so_far.turn last, le-ltb next (length s) h) (cc (m.so_far.last, m.so_far.total))

    pub unclear-trailing : next < length s → 0 ≡ unclear_with c result (length s) (arguments_in c s at e)
    unclear-trailing h = rw (turn_last c s at e m.ts count next n m.so_far.turn last, lt-ltb next (length s) h)

    pub unclear-end : length s ≤ next → u ≡ unclear_with c result (length s) (arguments_in c s at e)
    unclear-end h = rw (turn_last c s at e m.ts count next n m.so_far.turn last, le-ltb next (length s) h) m.so_far.unclear

-- no size depends on an ellipsis
measured-marked : (c : Convention) (v : Bool) (r : Option ValueType) (n all : ℕ) (x : Reading Trees) → measure_of (plan_with c false r n all x) ≡ measure_of (plan_with c v r n all x)
unfolding plan_in
measured-marked c v r n all (got ts next m) = go (ltb next all)
  where
    go : (more : Bool) → measure_of (pick more (refused_plan (fault Refusal.TrailingBytes next (n + m))) (plan_in (n + m) c false r (types_of c ts)))
        ≡ measure_of (pick more (refused_plan (fault Refusal.TrailingBytes next (n + m))) (plan_in (n + m) c v r (types_of c ts)))
    go true = refl
    go false = refl
measured-marked c v r n all (no f) = refl

-- the plan of what is read from the arguments on
plan-then : (s : List ℕ) (c : Convention) (r : ResultTree) (v : Bool) (n : ℕ) (x : Reading Trees) →
    plan_answer (then_arguments s c r v n x) ≡ plan_with c v (result_type c r) n (length s) x
unfolding plan_answer
plan-then s c r v n (got ts next m) = go (ltb next (length s))
  where
    go : (more : Bool) →
        plan_answer (pick more (no (fault Refusal.TrailingBytes next (n + m))) (got (record { convention = c; result = r; ellipsis = v; arguments = ts }) next (n + m)))
        ≡ pick more (refused_plan (fault Refusal.TrailingBytes next (n + m))) (plan_in (n + m) c v (result_type c r) (types_of c ts))
    go true = refl
    go false = refl
plan-then s c r v n (no f) = refl

pub plan-arguments : (s : List ℕ) (x : Result Head Fault) → x ≡ head_answer (head_of s) → (c : Convention) (t : Option ValueType) (v : Bool) (at b n : ℕ) → x ≡ head_found c t v at b n →
    plan_answer (signature_of s) ≡ plan_with c v t n (length s) (arguments_in c s at b)
plan-arguments s x found c t v at b n q =
    let (r, read, same) = signature-then s x found c t v at b n q in
    ap plan_answer read
    ∙ plan-then s c r v n (arguments_in c s at b)
    ∙ ap (λ (u : Option ValueType). plan_with c v u n (length s) (arguments_in c s at b)) (sym same)

-- the sizes alone: whatever the mark is
pub measured-arguments : (s : List ℕ) (x : Result Head Fault) → x ≡ head_answer (head_of s) → (c : Convention) (t : Option ValueType) (v : Bool) (at b n : ℕ) → x ≡ head_found c t v at b n →
    measure_of (plan_with c false t n (length s) (arguments_in c s at b)) ≡ measure_of (plan_answer (signature_of s))
measured-arguments s x found c t v at b n q =
    measured-marked c v t n (length s) (arguments_in c s at b) ∙ sym (ap measure_of (plan-arguments s x found c t v at b n q))

-- the first unclear argument of what is read from the arguments on
unclear-then : (s : List ℕ) (c : Convention) (r : ResultTree) (v : Bool) (n : ℕ) (x : Reading Trees) →
    unclear_of (signature_answer (then_arguments s c r v n x)) ≡ unclear_with c (result_type c r) (length s) x
unfolding first_unclear
unclear-then s c r v n (got ts next m) = go (ltb next (length s))
  where
    go : (more : Bool) →
        unclear_of (signature_answer (pick more (no (fault Refusal.TrailingBytes next (n + m))) (got (record { convention = c; result = r; ellipsis = v; arguments = ts }) next (n + m))))
        ≡ pick more 0 (first_unclear c (rules_of c) (start_in c (result_type c r)) 0 (types_of c ts))
    go true = refl
    go false = ap (first_unclear c (rules_of c) (start_in c (result_type c r)) 0) (table-types c ts)
unclear-then s c r v n (no f) = refl

pub unclear-arguments : (s : List ℕ) (x : Result Head Fault) → x ≡ head_answer (head_of s) → (c : Convention) (t : Option ValueType) (v : Bool) (at b n : ℕ) → x ≡ head_found c t v at b n →
    unclear_of (signature_answer (signature_of s)) ≡ unclear_with c t (length s) (arguments_in c s at b)
unclear-arguments s x found c t v at b n q =
    let (r, read, same) = signature-then s x found c t v at b n q in
    ap (λ (y : Reading Signature). unclear_of (signature_answer y)) read
    ∙ unclear-then s c r v n (arguments_in c s at b)
    ∙ ap (λ (u : Option ValueType). unclear_with c u (length s) (arguments_in c s at b)) (sym same)
