-- The rows from the arguments on are the entries of the whole reading. Assumes nothing.
use Rattle.sig_signatures.specs.declared.Head.{Head}
use Rattle.sig_types.specs.declared.ValueType.{ValueType}
use Rattle.std.proofs.Common.{Result, Option}
use mathlib.Core.Path.{◌≡◌, refl, sym, ap, ◌∙◌}
use mathlib.Core.Bool.{Bool, true, false}
use mathlib.Core.List.{List, [], ◌∷◌, ◌++◌}
use Prim.Native.Nat.{ℕ, zero, suc, ◌+◌, ◌-◌, ◌≤◌, ◌<◌}
use native.Mathlib.Omega.{arith}
use native.Mathlib.Numerals.{add-one}
use lib.ListN.{length, get_or, replicate, get_or-append}
use lib.Seq.{get_or_at}
use lib.Dec.{ltb}
use borrow.Author.Tests.{eq-eqb, ne_eqb}
use Rattle.base_words.specs.Basics.{pick}
use Rattle.base_conventions.specs.declared.Convention.{Convention}
use Rattle.sig_types.specs.Sizes.{size_of}
use Rattle.sig_types.specs.Trees.{Tree, Trees, none, ◌▸◌, type_of, count_of}
use Rattle.sig_items.specs.declared.Refusal.{Refusal}
use Rattle.sig_items.specs.declared.Fault.{Fault}
use Rattle.sig_items.specs.Reading.{Reading, fault, got, no, later}
use Rattle.sig_signatures.specs.Signature.{ResultTree, Signature}
use Rattle.sig_signatures.specs.Limits.{max_arguments}
use Rattle.sig_signatures.specs.Read.{arguments_in, signature_of, head_of}
use Rattle.sig_signatures.specs.Answer.{result_type, head_answer, signature_answer, head_found}
use Rattle.sig_signatures.proofs.Laws.{then_arguments}
use Rattle.sig_signatures.specs.Types.{values_of, types_of}
use Rattle.sig_signatures.proofs.Types.{length-of-types}
use Rattle.sig_reader.specs.Argument.{argument_in, arguments_place, argument_of, item_in, unclear_fault, argument_found}
use Rattle.sig_reader.proofs.Found.{begun}
use Rattle.plan_places.specs.declared.Cursor.{Cursor}
use Rattle.plan_places.specs.declared.Span.{Span}
use Rattle.plan_places.specs.Step.{rules_of, with_ellipsis, span_of}
use Rattle.plan_plans.specs.Plan.{spans_of, no_span, table_of, start_in, last_cursor_in, plan_in, refused_plan, plan_answer}
use Rattle.plan_plans.specs.Disjoint.{span_at}
use Rattle.plan_plans.proofs.Fold.{length-spans, last-marked, spans-more, values-more}
use Rattle.plan_plans.specs.Call.{called, call_of}
use Rattle.plan_plans.specs.Helpers.{unclear_of}
use Rattle.plan_plans.proofs.Calls.{called-clear, unclear-plan}
use Rattle.plan_words.specs.declared.Planned.{Planned}
use Rattle.plan_words.specs.Planned.{planned_of}
use Rattle.plan_words.specs.Entries.{size_in, size_at, value_start, entries_up_to, entries_of}
use Rattle.plan_words.specs.Helpers.{item_after, rows_of, rows_with, planned_by, rows_by}
use Rattle.plan_words.proofs.Turns.{same-words}

same-append : {a b x y : List ℕ} → a ≡ b → x ≡ y → a ++ x ≡ b ++ y
same-append p q = cc

-- A reading of the arguments ts, and its entries one by one: an argument more changes nothing of those before it.
module _ (c : Convention) (g : ResultTree) (v : Bool) (next n : ℕ) where
  abbrev start : ℕ
  start = arguments_place g v

  abbrev r : Option ValueType
  r = result_type c g

  abbrev read : Trees → Reading Signature
  read ts = got (record { convention = c; result = g; ellipsis = v; arguments = ts }) next n

  abbrev spans : Trees → List Span
  spans ts = spans_of c (with_ellipsis v (rules_of c)) (start_in c r) (types_of c ts)

  length-of-spans : (ts : Trees) → length (spans ts) ≡ count_of ts
  length-of-spans ts = length-spans c (with_ellipsis v (rules_of c)) (start_in c r) (types_of c ts) ∙ length-of-types c ts

  span-in : (ts : Trees) (i : ℕ) → i < count_of ts → span_at (plan_answer (read ts)) i ≡ get_or (spans ts) i no_span
  unfolding plan_answer plan_in table_of
  span-in ts i h =
      let less : i < length (spans ts) = omega (arith, length-of-spans ts) in
      get_or-append (spans ts) (replicate (max_arguments - length (spans ts)) no_span) no_span i less

  module _ (ts : Trees) (t : Tree) where
    abbrev here : Span
    here = span_of (with_ellipsis v (rules_of c)) (last_cursor_in c r (types_of c ts)) (type_of c t) (size_of c (type_of c t))

    spans-then : spans (ts ▸ t) ≡ spans ts ++ here ∷ []
    unfolding types_of
    spans-then =
        spans-more c (with_ellipsis v (rules_of c)) (start_in c r) (types_of c ts) (type_of c t)
        ∙ ap (λ (k : Cursor). spans ts ++ span_of (with_ellipsis v (rules_of c)) k (type_of c t) (size_of c (type_of c t)) ∷ []) (last-marked c v (rules_of c) (start_in c r) (types_of c ts))

    argument-same : (i : ℕ) → i < count_of ts → argument_of i (read (ts ▸ t)) ≡ argument_of i (read ts)
    unfolding argument_in
    argument-same i h = rw (ne_eqb i (count_of ts) (λ q. omega arith))

    argument-last : argument_of (count_of ts) (read (ts ▸ t)) ≡ argument_found (type_of c t) (item_after start ts)
    unfolding argument_in
    argument-last = rw (eq-eqb (count_of ts) (count_of ts) refl)

    span_same : (i : ℕ) → i < count_of ts → span_at (plan_answer (read (ts ▸ t))) i ≡ span_at (plan_answer (read ts)) i
    unfolding count_of
    span_same i h =
        let less : i < length (spans ts) = omega (arith, length-of-spans ts) in
        span-in (ts ▸ t) i (omega arith)
        ∙ ap (λ (l : List Span). get_or l i no_span) spans-then
        ∙ get_or-append (spans ts) (here ∷ []) no_span i less
        ∙ sym (span-in ts i h)

    span_last : span_at (plan_answer (read (ts ▸ t))) (count_of ts) ≡ here
    unfolding count_of
    span_last =
        span-in (ts ▸ t) (count_of ts) (omega arith)
        ∙ ap (λ (l : List Span). get_or l (count_of ts) no_span) spans-then
        ∙ get_or_at (spans ts) here [] no_span (count_of ts) (length-of-spans ts)

    size_same : (i : ℕ) → i < count_of ts → size_at (read (ts ▸ t)) i ≡ size_at (read ts) i
    unfolding plan_answer plan_in
    size_same i h = ap (size_in c) (argument-same i h)

    size-last : size_at (read (ts ▸ t)) (count_of ts) ≡ size_of c (type_of c t)
    unfolding plan_answer plan_in
    size-last = ap (size_in c) argument-last

    value_same : (i : ℕ) → i ≤ count_of ts → value_start (read (ts ▸ t)) i ≡ value_start (read ts) i
    unfolding value_start
    value_same zero h = refl
    value_same (suc i) h = omega (arith, value_same i (omega arith), size_same i (omega arith))

    entries-same : (i : ℕ) → i ≤ count_of ts → entries_up_to (read (ts ▸ t)) i ≡ entries_up_to (read ts) i
    unfolding entries_up_to
    entries-same zero h = refl
    entries-same (suc i) h =
        same-append (entries-same i (omega arith))
        (same-words (ap item_in (argument-same i (omega arith))) (size_same i (omega arith)) (value_same i (omega arith)) (span_same i (omega arith)))

  -- "without gaps": the last value starts where all before it end
  value-all : (ts : Trees) → value_start (read ts) (count_of ts) ≡ values_of c (types_of c ts)
  unfolding value_start count_of types_of values_of
  value-all none = refl
  value-all (ts ▸ t) =
      rw add-one (omega (arith, value_same ts t (count_of ts) (omega arith), value-all ts, size-last ts t, values-more c (types_of c ts) (type_of c t)))

  entries-all : (ts : Trees) → rows_of c v r start ts ≡ entries_up_to (read ts) (count_of ts)
  unfolding rows_of entries_up_to count_of
  entries-all none = refl
  entries-all (ts ▸ t) =
      rw add-one
      (same-append (entries-all ts ∙ sym (entries-same ts t (count_of ts) (omega arith)))
      (same-words (sym (ap item_in (argument-last ts t))) (sym (size-last ts t)) (sym (value_same ts t (count_of ts) (omega arith) ∙ value-all ts)) (sym (span_last ts t))))

  accepted-rows : (ts : Trees) → rows_of c v r start ts ≡ entries_of (read ts)
  unfolding entries_of plan_answer plan_in
  accepted-rows ts = entries-all ts ∙ ap (entries_up_to (read ts)) (sym (length-of-types c ts))

-- a refused one
refused-rows : (y : Reading Signature) (f : Fault) → plan_answer y ≡ refused_plan f → [] ≡ entries_of y
unfolding entries_of entries_up_to
refused-rows y f plan = rw plan

rows-of : (s : List ℕ) (c : Convention) (g : ResultTree) (v : Bool) (n : ℕ) (x : Reading Trees) →
    rows_with c v (result_type c g) (arguments_place g v) (length s) x ≡ entries_of (then_arguments s c g v n x)
unfolding plan_answer
rows-of s c g v n (no f) = refused-rows (no (later n f)) (later n f) refl
rows-of s c g v n (got ts next m) = go (ltb next (length s))
  where
    go : (more : Bool) → pick more [] (rows_of c v (result_type c g) (arguments_place g v) ts)
        ≡ entries_of (pick more (no (fault Refusal.TrailingBytes next (n + m))) (got (record { convention = c; result = g; ellipsis = v; arguments = ts }) next (n + m)))
    go true = refused-rows (no (fault Refusal.TrailingBytes next (n + m))) (fault Refusal.TrailingBytes next (n + m)) refl
    go false = accepted-rows c g v next (n + m) ts

pub rows-entries : (s : List ℕ) (x : Result Head Fault) → x ≡ head_answer (head_of s) → (c : Convention) (t : Option ValueType) (v : Bool) (at b n : ℕ) → x ≡ head_found c t v at b n →
    rows_with c v t at (length s) (arguments_in c s at b) ≡ entries_of (signature_of s)
rows-entries s x found c t v at b n q =
    let g = begun s x found c t v at b n q in
    let y : Reading Trees = arguments_in c s at b in
    ap (λ (u : Option ValueType). rows_with c v u at (length s) y) g.same
    ∙ ap (λ (k : ℕ). rows_with c v (result_type c g.result) k (length s) y) g.starts
    ∙ rows-of s c g.result v n y
    ∙ ap entries_of (sym g.whole)

pub no-entries : (s : List ℕ) (f : Fault) → signature_of s ≡ no f → [] ≡ entries_of (call_of s)
unfolding called plan_answer
no-entries s f q = refused-rows (call_of s) f (rw q)

-- ---- a call

pub planned-called : (x : Reading Signature) (m : Planned) (u : ℕ) → m ≡ planned_of (plan_answer x) → u ≡ unclear_of (signature_answer x)
    → planned_by u m x ≡ planned_of (plan_answer (called x))
unfolding planned_by
planned-called x m zero e q = e ∙ ap (λ (y : Reading Signature). planned_of (plan_answer y)) (sym (called-clear x (sym q)))
planned-called x m (suc i) e q = ap planned_of (unclear-plan x (signature_answer x) i refl (sym q))

pub rows-called : (x : Reading Signature) (rows : List ℕ) (u : ℕ) → rows ≡ entries_of x → u ≡ unclear_of (signature_answer x) → rows_by u rows ≡ entries_of (called x)
unfolding rows_by
rows-called x rows zero e q = e ∙ ap entries_of (sym (called-clear x (sym q)))
rows-called x rows (suc i) e q = refused-rows (called x) (unclear_fault i x) (sym (unclear-plan x (signature_answer x) i refl (sym q)))
