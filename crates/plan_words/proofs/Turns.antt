-- The loop: the arguments that are read so far, whose entries are kept, and what each way out of it gives. Assumes nothing.
use Rattle.sig_items.specs.declared.Item.{Item}
use Rattle.std.proofs.Common.{Ok, Result, Option}
use mathlib.Core.Path.{◌≡◌, refl, sym, ap, ◌∙◌}
use mathlib.Core.Bool.{Bool}
use mathlib.Core.List.{List}
use Prim.Native.Nat.{ℕ, suc, ◌+◌, ◌-◌, ◌*◌, ◌≤◌, ◌<◌}
use native.Mathlib.Omega.{arith}
use lib.ListN.{length, take, drop, length-append}
use lib.Seq.{take_at}
use borrow.Author.Tests.{lt-ltb, le-ltb}
use Rattle.base_words.specs.Splice.{overlay, splice, overlay_whole}
use Rattle.base_words.proofs.Splices.{length-overlay, overlay-is, overlay-nothing, overlay-append}
use Rattle.base_conventions.specs.declared.Convention.{Convention}
use Rattle.sig_types.specs.declared.ValueType.{ValueType}
use Rattle.sig_types.specs.Sizes.{size_of}
use Rattle.sig_types.specs.Trees.{Trees, none, ◌▸◌, type_of, count_of}
use Rattle.sig_items.specs.declared.Refusal.{Refusal}
use Rattle.sig_items.specs.declared.Fault.{Fault}
use Rattle.sig_items.specs.Reading.{fault, no, later}
use Rattle.sig_items.specs.Read.{item_at}
use Rattle.sig_items.specs.Answer.{item_answer, item_found}
use Rattle.sig_items.proofs.Loop.{item-answered}
use Rattle.sig_signatures.specs.Limits.{max_arguments}
use Rattle.sig_signatures.specs.Read.{arguments_in, signature_of}
use Rattle.sig_signatures.proofs.Loop.{turn_more, turn_last}
use Rattle.sig_signatures.specs.Types.{values_of, types_of}
use Rattle.sig_signatures.proofs.Types.{length-of-types}
use Rattle.sig_reader.specs.Argument.{unclear_fault}
use Rattle.plan_places.specs.declared.Cursor.{Cursor}
use Rattle.plan_places.specs.declared.Span.{Span}
use Rattle.plan_places.specs.declared.CallRules.{CallRules}
use Rattle.plan_places.specs.Step.{rules_of, with_ellipsis, span_of, next_of, unclear_for, area_of}
use Rattle.plan_places.specs.Helpers.{unclear_after}
use Rattle.plan_places.proofs.Bounds.{rules-lawful}
use Rattle.plan_places.proofs.Marked.{next-marked, unclear-marked}
use Rattle.plan_plans.specs.Plan.{hidden_in, start_in, last_cursor_in, result_places_in, plan_in, refused_plan}
use Rattle.plan_plans.proofs.Measures.{SoFar, none_so_far, more-so-far}
use Rattle.plan_plans.proofs.Fold.{same_step}
use Rattle.plan_entries.specs.Words.{entry_words}
use Rattle.plan_entries.proofs.Copies.{tabled-nothing}
use Rattle.plan_entries.specs.Results.{result_words}
use Rattle.plan_words.specs.declared.Planned.{Planned}
use Rattle.plan_words.specs.Planned.{planned_of}
use Rattle.plan_words.specs.Helpers.{item_after, rows_of, rows_by, planned_by, plan_called, rows_called}

length-rows : (c : Convention) (mark : Bool) (r : Option ValueType) (at : ℕ) (ts : Trees) → length (rows_of c mark r at ts) ≡ 13 * count_of ts
unfolding rows_of count_of entry_words
length-rows c mark r at none = refl
length-rows c mark r at (ts ▸ t) = simp length-append (omega (arith, length-rows c mark r at ts))

pub same-words : {i j n m v w : ℕ} {s u : Span} → i ≡ j → n ≡ m → v ≡ w → s ≡ u → entry_words i n v s ≡ entry_words j m w u
same-words p q x y = cc

-- reading on from here gives all arguments; the entries of those so far, by the mark of an ellipsis, are put over what was there, l
pub record Keeping (c : Convention) (mark : Bool) (s : List ℕ) (at e : ℕ) (r : Option ValueType) (l : List ℕ) (k : Cursor) (kept : List ℕ) (v u count next n : ℕ) : Type 0 where
  pub ts : Trees
  pub sizes : SoFar c s at e (rules_of c) (start_in c r) ts k v u count next n
  pub entries : kept ≡ overlay l (rows_of c mark r at ts)

module _ (c : Convention) (mark : Bool) (s : List ℕ) (at e : ℕ) (r : Option ValueType) (l : List ℕ) where
  pub keeping_start : (k : Cursor) → k ≡ start_in c r → at ≤ e → Keeping c mark s at e r l k l 0 0 0 at 1
  unfolding rows_of
  keeping_start k p h = rw p (record { ts = none; sizes = none_so_far c s at e (rules_of c) (hidden_in c r) (rules-lawful c) h; entries = overlay-nothing l })

  module _ (k : Cursor) (kept : List ℕ) (v u count next n : ℕ) (m : Keeping c mark s at e r l k kept v u count next n) where
    pub keeping-more : next < e → (count ≡ max_arguments → ⊥) → (x : Result Item Fault) → x ≡ item_answer c (item_at c 8 s e next) → (t : ValueType) (after j : ℕ) →
        x ≡ item_found t after j →
        Keeping c mark s at e r l (next_of (with_ellipsis mark (rules_of c)) k t (size_of c t)) (splice kept (13 * count) (entry_words next (size_of c t) v (span_of (with_ellipsis mark (rules_of c)) k t (size_of c t)))) (v + size_of c t) (unclear_after u (unclear_for (with_ellipsis mark (rules_of c)) k t) count) (count + 1) after (n + j)
    unfolding types_of rows_of
    keeping-more h some x found t after j q =
        let a = item-answered c 8 s e next x t after j (omega arith) found q in
        let more = turn_more c s at e m.ts count next n m.sizes.turn h some x found t after j q in
        let so_far : List ValueType = types_of c m.ts in
        let w : ValueType = type_of c more.tree in
        let rows : List ℕ = rows_of c mark r at m.ts in
        let rules : CallRules = with_ellipsis mark (rules_of c) in
        let here : List ℕ = entry_words (item_after at m.ts) (size_of c w) (values_of c so_far) (span_of rules (last_cursor_in c r so_far) w (size_of c w)) in
        let place : 13 * count ≡ length rows = omega (arith, length-rows c mark r at m.ts, m.sizes.turn.many) in
        record {
          ts = m.ts ▸ more.tree;
          sizes = rw (next-marked mark (rules_of c) k t (size_of c t), unclear-marked mark (rules_of c) k t)
              (more-so-far c s at e (rules_of c) (start_in c r) m.ts k v u count next n m.sizes (rules-lawful c) t a.sized.small more.tree more.same after (n + j) more.turn);
          entries =
              ap (λ (y : List ℕ). splice y (13 * count) (entry_words next (size_of c t) v (span_of rules k t (size_of c t)))) m.entries
              ∙ ap (splice (overlay l rows) (13 * count)) (same-words m.sizes.turn.ends (ap (size_of c) more.same) m.sizes.total (same_step (span_of rules) c m.sizes.last more.same))
              ∙ ap (λ (i : ℕ). splice (overlay l rows) i here) place
              ∙ sym (overlay-append l rows here);
        }

    pub keeping-length : length kept ≡ length l
    keeping-length = ap length m.entries ∙ length-overlay l (rows_of c mark r at m.ts)

    pub keeping_all : 13 * count ≤ length l → take (13 * count) kept ≡ rows_of c mark r at m.ts
    keeping_all room =
        let rows : List ℕ = rows_of c mark r at m.ts in
        let many : length rows ≡ 13 * count = omega (arith, length-rows c mark r at m.ts, m.sizes.turn.many) in
        ap (take (13 * count)) (m.entries ∙ overlay-is l rows (omega arith)) ∙ take_at rows (drop (length rows) l) (13 * count) many

-- ---- the answers

module _ (c : Convention) (mark : Bool) (s : List ℕ) (at e : ℕ) (r : Option ValueType) (earlier : ℕ) where
  pub plan-no : (f : Fault) → arguments_in c s at e ≡ no f →
      planned_of (refused_plan (later earlier f)) ≡ plan_called c mark r earlier (length s) (arguments_in c s at e) (signature_of s)
  unfolding planned_by
  plan-no f q = rw q

  pub rows-no : (f : Fault) → arguments_in c s at e ≡ no f → (table : List ℕ) → table ≡ overlay_whole table (rows_called c mark r at (length s) (arguments_in c s at e))
  unfolding rows_by
  rows-no f q table = rw q (tabled-nothing table)

  module _ (l : List ℕ) (k : Cursor) (kept : List ℕ) (v u count next n : ℕ) (m : Keeping c mark s at e r l k kept v u count next n) (last : e ≤ next) where
    pub plan-trailing : next < length s →
        planned_of (refused_plan (fault Refusal.TrailingBytes next (earlier + n))) ≡ plan_called c mark r earlier (length s) (arguments_in c s at e) (signature_of s)
    unfolding planned_by
    plan-trailing h = rw (turn_last c s at e m.ts count next n m.sizes.turn last, lt-ltb next (length s) h)

    pub rows-trailing : next < length s → (table : List ℕ) → table ≡ overlay_whole table (rows_called c mark r at (length s) (arguments_in c s at e))
    unfolding rows_by
    rows-trailing h table = rw (turn_last c s at e m.ts count next n m.sizes.turn last, lt-ltb next (length s) h) (tabled-nothing table)

    pub plan-end : length s ≤ next → u ≡ 0 →
        ◌≡◌ {A = Planned}
        (record { outcome = Ok (earlier + n); convention = c; ellipsis = mark; result = result_words (result_places_in c r); count = count; area = area_of c k; values = v; copies = k.copies })
        (plan_called c mark r earlier (length s) (arguments_in c s at e) (signature_of s))
    unfolding plan_in planned_by
    plan-end h z =
        let many : count ≡ length (types_of c m.ts) = m.sizes.turn.many ∙ sym (length-of-types c m.ts) in
        rw (turn_last c s at e m.ts count next n m.sizes.turn last, le-ltb next (length s) h, sym m.sizes.unclear ∙ z) (cc (m.sizes.last, m.sizes.total, many))

    pub rows_end : length s ≤ next → u ≡ 0 → 13 * count ≤ length l → take (13 * count) kept ≡ rows_called c mark r at (length s) (arguments_in c s at e)
    unfolding rows_by
    rows_end h z room = rw (turn_last c s at e m.ts count next n m.sizes.turn last, le-ltb next (length s) h, sym m.sizes.unclear ∙ z) (keeping_all c mark s at e r l k kept v u count next n m room)

    pub plan-unclear : length s ≤ next → 0 < u → planned_of (refused_plan (unclear_fault (u - 1) (signature_of s))) ≡ plan_called c mark r earlier (length s) (arguments_in c s at e) (signature_of s)
    unfolding planned_by
    plan-unclear h z =
        let some : u ≡ suc (u - 1) = omega arith in
        rw (turn_last c s at e m.ts count next n m.sizes.turn last, le-ltb next (length s) h, sym m.sizes.unclear ∙ some)

    pub rows-unclear : length s ≤ next → 0 < u → (table : List ℕ) → table ≡ overlay_whole table (rows_called c mark r at (length s) (arguments_in c s at e))
    unfolding rows_by
    rows-unclear h z table =
        let some : u ≡ suc (u - 1) = omega arith in
        rw (turn_last c s at e m.ts count next n m.sizes.turn last, le-ltb next (length s) h, sym m.sizes.unclear ∙ some) (tabled-nothing table)
