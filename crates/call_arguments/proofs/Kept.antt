-- The loop that reads a call's arguments: those so far are kept; what each way out of it gives; and the whole call by that. Assumes nothing.
use Rattle.sig_items.specs.declared.Item.{Item}
use Rattle.std.proofs.Common.{Ok, Err, Result, Option}
use mathlib.Core.Path.{◌≡◌, refl, sym, ap, ap₂, ◌∙◌}
use mathlib.Core.Bool.{Bool, true, false}
use mathlib.Core.List.{List, [], ◌∷◌, ◌++◌}
use Prim.Native.Nat.{ℕ, zero, suc, ◌+◌, ◌-◌, ◌*◌, ◌≤◌, ◌<◌}
use native.Mathlib.Omega.{arith}
use borrow.Author.Tests.{lt-ltb}
use lib.Dec.{ltb}
use lib.ListN.{length}
use Rattle.base_words.specs.Basics.{pick}
use Rattle.base_words.specs.Splice.{splice}
use Rattle.base_words.proofs.Splices.{length-splice}
use Rattle.base_conventions.specs.declared.Convention.{Convention}
use Rattle.sig_types.specs.declared.ValueType.{ValueType}
use Rattle.sig_types.specs.Sizes.{size_of}
use Rattle.sig_types.specs.Trees.{Trees, none, ◌▸◌, type_of}
use Rattle.sig_items.specs.declared.Refusal.{Refusal}
use Rattle.sig_items.specs.declared.Fault.{Fault}
use Rattle.sig_items.specs.Reading.{Reading, fault, got, no}
use Rattle.sig_items.specs.Read.{item_at}
use Rattle.sig_items.specs.Answer.{item_answer, item_found}
use Rattle.sig_items.proofs.Loop.{item-answered}
use Rattle.sig_signatures.specs.Limits.{max_arguments}
use Rattle.sig_signatures.specs.Helpers.{RoomFor}
use Rattle.sig_signatures.specs.Signature.{ResultTree, Signature}
use Rattle.sig_signatures.specs.Read.{arguments_in, signature_of, head_of}
use Rattle.sig_signatures.specs.Answer.{result_type, head_answer, signature_answer}
use Rattle.sig_signatures.specs.Types.{types_of}
use Rattle.sig_signatures.proofs.Laws.{then_arguments, signature-then}
use Rattle.sig_signatures.proofs.Loop.{turn-start, turn_last, turn_more}
use Rattle.sig_reader.specs.Argument.{unclear_fault}
use Rattle.plan_places.specs.declared.Cursor.{Cursor}
use Rattle.plan_places.specs.declared.Span.{Span}
use Rattle.plan_places.specs.declared.CallRules.{CallRules}
use Rattle.plan_places.specs.Step.{rules_of, with_ellipsis, span_of, next_of, unclear_for, area_of}
use Rattle.plan_places.specs.Helpers.{unclear_after, LawfulCalls}
use Rattle.plan_places.proofs.Bounds.{rules-lawful}
use Rattle.plan_places.proofs.Marked.{next-marked, unclear-marked, named-marked, lawful-marked}
use Rattle.plan_places.proofs.Registers.{step-numbered}
use Rattle.plan_plans.specs.declared.Measured.{Measured}
use Rattle.plan_plans.specs.Plan.{spans_of, last_of, hidden_in, start_in, refused_plan, result_places_in, plan_in, plan_answer, measure_of}
use Rattle.plan_plans.specs.Helpers.{plan_with, unclear_of, unclear_with}
use Rattle.plan_plans.specs.Call.{called, outcome_for}
use Rattle.plan_plans.proofs.Fold.{last-marked}
use Rattle.plan_plans.proofs.Measures.{Measuring, none_so_far, more-so-far, measuring-start, measure-trailing, measure-end, unclear-trailing, unclear-end, measured-arguments, unclear-arguments}
use Rattle.plan_plans.proofs.Calls.{called-accepted, called-clear, called-unclear}
use Rattle.call_slots.specs.Placements.{Placement, placement, placements}
use Rattle.call_slots.specs.Arguments.{placements_in, arguments_of, plan_for, rules_for, sizes_for}
use Rattle.call_slots.proofs.Answered.{arguments-got}
use Rattle.call_kept.specs.Helpers.{row_length, row_of, kept_all, kept_from}
use Rattle.call_kept.proofs.Codes.{sized-codable}
use Rattle.call_kept.proofs.Rows.{kept_more}
use Rattle.call_arguments.specs.Helpers.{HeadIs, NoneLeft, KeptWith, KeptOf, KeptWhere, outcome_by}

pub lawful-in : (c : Convention) (v : Bool) → LawfulCalls (with_ellipsis v (rules_of c))
lawful-in c v = lawful-marked v (rules_of c) (rules-lawful c)

-- ---- the loop

-- one argument more
placements-more : (c : Convention) (r : CallRules) (k : Cursor) (ts : List ValueType) (t : ValueType)
    → placements c (ts ++ t ∷ []) (spans_of c r k (ts ++ t ∷ []))
    ≡ placements c ts (spans_of c r k ts) ++ placement t (size_of c t) (span_of r (last_of c r k ts) t (size_of c t)) ∷ []
unfolding placements spans_of last_of
placements-more c r k [] t = refl
placements-more c r k (u ∷ ts) t =
    ap (λ (l : List Placement). placement u (size_of c u) (span_of r k u (size_of c u)) ∷ l) (placements-more c r (next_of r k u (size_of c u)) ts t)

same-placement : (c : Convention) (r : CallRules) {k l : Cursor} {t u : ValueType} → k ≡ l → t ≡ u
    → placement t (size_of c t) (span_of r k t (size_of c t)) ≡ placement u (size_of c u) (span_of r l u (size_of c u))
same-placement c r p q = cc

-- the sizes of the arguments so far, whose rows are kept in place of what was there, l
pub record Keeping (c : Convention) (v : Bool) (s : List ℕ) (at e : ℕ) (start : Cursor) (l : List ℕ) (k : Cursor) (kept : List ℕ) (bytes u count next n : ℕ) : Type 0 where
  pub sizes : Measuring c s at e (rules_of c) start k bytes u count next n
  pub long : length kept ≡ length l
  pub rows : kept_all c kept count ≡ placements c (types_of c sizes.ts) (spans_of c (with_ellipsis v (rules_of c)) start (types_of c sizes.ts))

module _ (c : Convention) (v : Bool) (s : List ℕ) (at e : ℕ) (l : List ℕ) where
  pub keeping_start : (r : Option ValueType) (k : Cursor) → k ≡ start_in c r → at ≤ e → Keeping c v s at e k l k l 0 0 0 at 1
  unfolding kept_from types_of placements last_of
  keeping_start r k p h = rw p (record {
    sizes = record { ts = none; so_far = none_so_far c s at e (rules_of c) (hidden_in c r) (rules-lawful c) h };
    long = refl;
    rows = refl;
  })

  module _ (room : RoomFor row_length at e (length l)) (start k : Cursor) (kept : List ℕ) (bytes u count next n : ℕ) (m : Keeping c v s at e start l k kept bytes u count next n) where
    module _ (h : next < e) (some : count ≡ max_arguments → ⊥) (x : Result Item Fault) (found : x ≡ item_answer c (item_at c 8 s e next)) (t : ValueType) (after j : ℕ) (q : x ≡ item_found t after j) where
      -- the row has room
      pub keeping-room : 10 * count + 10 ≤ length kept
      keeping-room =
          let a = item-answered c 8 s e next x t after j (omega arith) found q in
          let rows : 10 * (count + 1) ≤ length l = room (count + 1) (omega (arith, m.sizes.so_far.turn.few)) (omega (arith, m.sizes.so_far.turn.apart, a.on, a.inside)) in
          omega (arith, m.long)

      pub keeping-more : Keeping c v s at e start l (next_of (with_ellipsis v (rules_of c)) k t (size_of c t)) (splice kept (10 * count) (row_of t (span_of (with_ellipsis v (rules_of c)) k t (size_of c t)))) (bytes + size_of c t) (unclear_after u (unclear_for (with_ellipsis v (rules_of c)) k t) count) (count + 1) after (n + j)
      unfolding types_of
      keeping-more =
          let a = item-answered c 8 s e next x t after j (omega arith) found q in
          let more = turn_more c s at e m.sizes.ts count next n m.sizes.so_far.turn h some x found t after j q in
          let rules : CallRules = with_ellipsis v (rules_of c) in
          let so_far : List ValueType = types_of c m.sizes.ts in
          let last : k ≡ last_of c rules start so_far = m.sizes.so_far.last ∙ sym (last-marked c v (rules_of c) start so_far) in
          let w : ValueType = type_of c more.tree in
          let span : Span = span_of rules k t (size_of c t) in
          let numbered = step-numbered rules k t (size_of c t) (named-marked v (rules_of c) k m.sizes.so_far.reached.named) in
          record {
            sizes = record {
              ts = m.sizes.ts ▸ more.tree;
              so_far = rw (next-marked v (rules_of c) k t (size_of c t), unclear-marked v (rules_of c) k t)
                  (more-so-far c s at e (rules_of c) start m.sizes.ts k bytes u count next n m.sizes.so_far (rules-lawful c) t a.sized.small more.tree more.same after (n + j) more.turn);
            };
            long = length-splice kept (10 * count) (row_of t span) ∙ m.long;
            rows =
                kept_more c kept count t span keeping-room (sized-codable c t a.sized) numbered
                ∙ ap₂ (λ (ps : List Placement) (p : Placement). ps ++ p ∷ []) m.rows (same-placement c rules last more.same)
                ∙ sym (placements-more c rules start so_far w);
          }

-- ---- what is kept in the end

module _ (c : Convention) (v : Bool) (s : List ℕ) (at e : ℕ) (r : Option ValueType) where
  pub kept-no : (f : Fault) → arguments_in c s at e ≡ no f → (l : List ℕ) (n : ℕ) → KeptWith c v r (length s) (arguments_in c s at e) l n
  kept-no f q l n = rw q tt

  module _ (l : List ℕ) (room : RoomFor row_length at e (length l)) (k : Cursor) (kept : List ℕ) (bytes u count next n : ℕ) (m : Keeping c v s at e (start_in c r) l k kept bytes u count next n) (last : e ≤ next) where
    pub kept-trailing : next < length s → (j : ℕ) → KeptWith c v r (length s) (arguments_in c s at e) kept j
    kept-trailing h j = rw (turn_last c s at e m.sizes.ts count next n m.sizes.so_far.turn last) (λ more. let z : ◌≡◌ {A = ℕ} 0 1 = cc (lt-ltb next (length s) h, more) in absurd (omega arith))

    pub kept-end : KeptWith c v r (length s) (arguments_in c s at e) kept count
    kept-end =
        rw (turn_last c s at e m.sizes.ts count next n m.sizes.so_far.turn last)
        (λ _. (room_of_lem, m.rows))
      where
        room_of_lem : 10 * count ≤ length kept
        room_of_lem = let rows : 10 * count ≤ length l = room count (omega (arith, m.sizes.so_far.turn.few)) (omega (arith, m.sizes.so_far.turn.apart, m.sizes.so_far.turn.within)) in omega (arith, m.long)

-- ---- the whole call

arguments-then : (s : List ℕ) (c : Convention) (r : ResultTree) (v : Bool) (n : ℕ) (ts : Trees) (next m : ℕ) → ltb next (length s) ≡ false
    → signature_of s ≡ then_arguments s c r v n (got ts next m)
    → arguments_of s ≡ placements c (types_of c ts) (spans_of c (with_ellipsis v (rules_of c)) (start_in c (result_type c r)) (types_of c ts))
unfolding arguments_of
arguments-then s c r v n ts next m end read = rw (read, end) (arguments-got (record { convention = c; result = r; ellipsis = v; arguments = ts }) next (n + m))

module _ (s : List ℕ) (c : Convention) (t : Option ValueType) (v : Bool) (at b n : ℕ) (head : HeadIs s c t v at b n) where
  -- what is kept of what is read, where that is accepted
  kept_read : (l : List ℕ) (count : ℕ) → KeptWith c v t (length s) (arguments_in c s at b) l count
      → KeptWhere (measure_of (plan_with c false t n (length s) (arguments_in c s at b))).outcome s c l count
  unfolding plan_in
  kept_read l count = go (arguments_in c s at b) refl
    where
      ended : (ts : Trees) (next m : ℕ) → arguments_in c s at b ≡ got ts next m → ltb next (length s) ≡ false → KeptWith c v t (length s) (got ts next m) l count → KeptOf s c l count
      ended ts next m e end h =
          let (r, read, same) = signature-then s (head_answer (head_of s)) refl c t v at b n head in
          let (room, rows) = h end in
          let read-so : signature_of s ≡ then_arguments s c r v n (got ts next m) = read ∙ ap (then_arguments s c r v n) e in
          let arguments = arguments-then s c r v n ts next m end read-so in
          record {
            room = room;
            same = rows ∙ ap (λ (u : Option ValueType). placements c (types_of c ts) (spans_of c (with_ellipsis v (rules_of c)) (start_in c u) (types_of c ts))) same ∙ sym arguments;
          }

      by_end : (more : Bool) (ts : Trees) (next m : ℕ) → arguments_in c s at b ≡ got ts next m → ltb next (length s) ≡ more → KeptWith c v t (length s) (got ts next m) l count
          → KeptWhere (measure_of (pick more (refused_plan (fault Refusal.TrailingBytes next (n + m))) (plan_in (n + m) c false t (types_of c ts)))).outcome s c l count
      by_end true ts next m e q h = tt
      by_end false ts next m e q h = ended ts next m e q h

      go : (x : Reading Trees) → arguments_in c s at b ≡ x → KeptWith c v t (length s) x l count → KeptWhere (measure_of (plan_with c false t n (length s) x)).outcome s c l count
      go (no f) e h = tt
      go (got ts next m) e h = by_end (ltb next (length s)) ts next m e refl h

  -- and of the call
  pub kept-where : (m : Measured) (u : ℕ) (l : List ℕ) (count : ℕ) → m ≡ measure_of (plan_with c false t n (length s) (arguments_in c s at b))
      → KeptWith c v t (length s) (arguments_in c s at b) l count → KeptWhere (outcome_by u m.outcome (signature_of s)) s c l count
  unfolding outcome_by
  kept-where m zero l count e h = rw e (kept_read l count h)
  kept-where m (suc i) l count e h = tt

  outcome-by : (x : Reading Signature) (u : ℕ) → u ≡ unclear_of (signature_answer x) → outcome_by u (plan_answer x).outcome x ≡ (plan_answer (called x)).outcome
  unfolding outcome_by plan_answer
  outcome-by x zero q = ap (λ (y : Reading Signature). (plan_answer y).outcome) (sym (called-clear x (sym q)))
  outcome-by x (suc i) q = ap (λ (y : Reading Signature). (plan_answer y).outcome) (sym (called-unclear x i (sym q)))

  pub sizes-of : (m : Measured) (u : ℕ) → m ≡ measure_of (plan_with c false t n (length s) (arguments_in c s at b)) → u ≡ unclear_with c t (length s) (arguments_in c s at b)
      → ◌≡◌ {A = Measured} (record { outcome = outcome_by u m.outcome (signature_of s); area = m.area; values = m.values; copies = m.copies }) (sizes_for s)
  sizes-of m u e q =
      let same = e ∙ measured-arguments s (head_answer (head_of s)) refl c t v at b n head in
      let number = q ∙ sym (unclear-arguments s (head_answer (head_of s)) refl c t v at b n head) in
      rw same
      (ap (λ (o : Result ℕ Fault). record { outcome = o; area = (plan_for s).area; values = (plan_for s).values; copies = (plan_for s).copies }) (outcome-by (signature_of s) u number))

pub unclear-by : (u : ℕ) (o : Result ℕ Fault) (x : Reading Signature) → 0 < u → Err (unclear_fault (u - 1) x) ≡ outcome_by u o x
unfolding outcome_by
unclear-by zero o x h = absurd (omega arith)
unclear-by (suc i) o x h = let same : suc i - 1 ≡ i = omega arith in rw same

-- ---- a call without arguments

pub none_left : (s : List ℕ) (c : Convention) (t : Option ValueType) (v : Bool) (at e n : ℕ) → HeadIs s c t v at e n → at ≡ e → NoneLeft s c t e n
none_left s c t v at e n head same = (v, rw same at head)

module _ (s : List ℕ) (c : Convention) (t : Option ValueType) (v : Bool) (e n : ℕ) (head : HeadIs s c t v e e n) where
  no-turn : Measuring c s e e (rules_of c) (start_in c t) (start_in c t) 0 0 0 e 1
  no-turn = measuring-start c s e e (rules_of c) (hidden_in c t) (rules-lawful c) (omega arith)

  pub none-trailing : e < length s → measure_of (refused_plan (fault Refusal.TrailingBytes e (n + 1))) ≡ sizes_for s
  unfolding outcome_by
  none-trailing h =
      sizes-of s c t v e e n head _ 0 (measure-trailing c s e e t n (start_in c t) 0 0 0 e 1 no-turn (omega arith) h)
      (unclear-trailing c s e e t n (start_in c t) 0 0 0 e 1 no-turn (omega arith) h)

  pub none_end : length s ≤ e → ◌≡◌ {A = Measured} (record { outcome = Ok (n + 1); area = area_of c (start_in c t); values = 0; copies = (start_in c t).copies }) (sizes_for s)
  unfolding outcome_by
  none_end h =
      sizes-of s c t v e e n head _ 0 (measure-end c s e e t n (start_in c t) 0 0 0 e 1 no-turn (omega arith) h)
      (unclear-end c s e e t n (start_in c t) 0 0 0 e 1 no-turn (omega arith) h)

  pub none-arguments : arguments_of s ≡ []
  unfolding types_of placements arguments_of placements_in
  none-arguments =
      let (r, read, same) = signature-then s (head_answer (head_of s)) refl c t v e e n head in
      let ended = turn_last c s e e none 0 e 1 (turn-start c s e e (omega arith)) (omega arith) in
      go r (ltb e (length s)) refl (read ∙ ap (then_arguments s c r v n) ended)
    where
      go : (r : ResultTree) (more : Bool) → ltb e (length s) ≡ more → signature_of s ≡ then_arguments s c r v n (got none e 1) → arguments_of s ≡ []
      go r true q read = rw (read, q)
      go r false q read = arguments-then s c r v n none e 1 q read

-- ---- what an accepted call is known by

-- the rules of its arguments and the places of its result are those of what stands before them
pub record Headed (s : List ℕ) (c : Convention) (t : Option ValueType) (v : Bool) : Type 0 where
  pub rules : with_ellipsis v (rules_of c) ≡ rules_for s
  pub result : result_places_in c t ≡ (plan_for s).result

module _ (s : List ℕ) (c : Convention) (t : Option ValueType) (v : Bool) (at b n : ℕ) (head : HeadIs s c t v at b n) where
  pub headed : (k : ℕ) → outcome_for s ≡ Ok k → Headed s c t v
  unfolding plan_answer plan_in
  headed k accepted =
      let (r, read, same) = signature-then s (head_answer (head_of s)) refl c t v at b n head in
      let plain : (plan_answer (signature_of s)).outcome ≡ Ok k = sym (ap (λ (y : Reading Signature). (plan_answer y).outcome) (called-accepted (signature_of s) k accepted)) ∙ accepted in
      go r same (arguments_in c s at b) read (sym (ap (λ (y : Reading Signature). (plan_answer y).outcome) read) ∙ plain)
    where
      known : (r : ResultTree) → t ≡ result_type c r → (ts : Trees) (next m : ℕ) → signature_of s ≡ got (record { convention = c; result = r; ellipsis = v; arguments = ts }) next m → Headed s c t v
      known r same ts next m q = record { rules = rw q; result = rw (q, same) }

      by_end : (r : ResultTree) → t ≡ result_type c r → (more : Bool) (ts : Trees) (next m : ℕ)
          → signature_of s ≡ pick more (no (fault Refusal.TrailingBytes next (n + m))) (got (record { convention = c; result = r; ellipsis = v; arguments = ts }) next (n + m))
          → (plan_answer (pick more (no (fault Refusal.TrailingBytes next (n + m))) (got (record { convention = c; result = r; ellipsis = v; arguments = ts }) next (n + m)))).outcome ≡ Ok k
          → Headed s c t v
      by_end r same true ts next m q a = let z : ◌≡◌ {A = ℕ} 0 1 = cc in absurd (omega arith)
      by_end r same false ts next m q a = known r same ts next (n + m) q

      go : (r : ResultTree) → t ≡ result_type c r → (x : Reading Trees) → signature_of s ≡ then_arguments s c r v n x → (plan_answer (then_arguments s c r v n x)).outcome ≡ Ok k → Headed s c t v
      go r same (no f) q a = let z : ◌≡◌ {A = ℕ} 0 1 = cc in absurd (omega arith)
      go r same (got ts next m) q a = by_end r same (ltb next (length s)) ts next m q a
