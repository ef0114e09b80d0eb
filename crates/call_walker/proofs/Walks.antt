-- A walk over the declared types of a signature gives what plain reading gives, where that accepts (specs/Walks.antt). Assumes nothing.
use Rattle.std.proofs.Common.{Option}
use mathlib.Core.Path.{◌≡◌, refl, sym, ap, ap₂, ◌∙◌, subst}
use mathlib.Core.Bool.{Bool, true, false}
use mathlib.Core.List.{List, [], ◌∷◌, ◌++◌, map}
use Prim.Native.Nat.{ℕ, zero, suc, ◌+◌, ◌-◌, ◌/◌, ◌≤◌}
use native.Mathlib.Omega.{arith}
use native.Mathlib.Nat.{div-le_self}
use lib.ListN.{length, take, drop, length-drop}
use lib.Seq.{length-take-le}
use Rattle.base_words.specs.Basics.{pick, All}
use Rattle.base_words.specs.Splice.{overlay}
use Rattle.base_words.proofs.Splices.{overlay-whole}
use Rattle.base_words.proofs.Each.{each_both}
use Rattle.base_words.proofs.Basics.{map-append}
use Rattle.base_conventions.specs.declared.Convention.{Convention}
use Rattle.sig_types.specs.declared.ValueType.{ValueType}
use Rattle.sig_types.specs.Sizes.{size_of}
use Rattle.sig_types.specs.Trees.{Tree, Trees, none, ◌▸◌, type_of}
use Rattle.sig_types.specs.Limits.{TypeWithin, AllWithin}
use Rattle.sig_types.proofs.Sized.{within-sized}
use Rattle.sig_items.specs.Reading.{Reading, got, no}
use Rattle.sig_items.specs.Encode.{encode_tree, encode_trees}
use Rattle.sig_items.proofs.Trees.{length_more}
use Rattle.sig_signatures.specs.Signature.{Signature}
use Rattle.sig_signatures.specs.Limits.{max_length}
use Rattle.sig_signatures.specs.Read.{signature_of}
use Rattle.sig_signatures.specs.Answer.{result_type, signature_answer}
use Rattle.sig_signatures.proofs.Sound.{length-encode}
use Rattle.sig_signatures.proofs.Theorems.{accepted}
use Rattle.sig_signatures.specs.Types.{values_of, types_of}
use Rattle.sig_signatures.proofs.Types.{length-of-types}
use Rattle.plan_places.specs.declared.Cursor.{Cursor}
use Rattle.plan_places.specs.declared.CallRules.{CallRules}
use Rattle.plan_places.specs.Step.{rules_of, span_of, next_of, unclear_for, start_of}
use Rattle.plan_places.specs.Helpers.{LawfulCalls}
use Rattle.plan_places.proofs.Bounds.{rules-lawful, area-holds}
use Rattle.plan_places.proofs.Marked.{next-marked}
use Rattle.plan_plans.specs.Plan.{spans_of, last_of, hidden_in, start_in, last_cursor_in, plan_in, plan_answer}
use Rattle.plan_plans.specs.Call.{first_unclear, unclear_in, clear_read, called}
use Rattle.plan_plans.proofs.Fold as fold
use Rattle.call_slots.specs.Buffers.{Buffers}
use Rattle.call_slots.specs.Placements.{Placement, placement, placements, value_at, values_at}
use Rattle.call_slots.specs.Refusals.{first_of, or_else, first_of_all, after_reading}
use Rattle.call_slots.specs.Arguments.{rules_in, placements_in, arguments_of}
use Rattle.call_slots.proofs.Typed.{Typed, all_typed}
use Rattle.call_slots.proofs.Answered.{planned-values, arguments-got}
use Rattle.call_slots.proofs.Planned.{placements-sizes}
use Rattle.call_slots.proofs.Refusals.{or-done}
use Rattle.call_unmarshal.specs.Helpers.{InBuffers, Readable}
use Rattle.call_unmarshal.proofs.Arguments.{value-length, length-values}
use Rattle.call_read.specs.declared.ReadLengths.{ReadLengths}
use Rattle.call_read.specs.Read.{read_lengths, arguments_answer, read_tests, read_answer, read_values}
use Rattle.call_read.proofs.Accepted.{Lent, tests-passed, each-ready}
use Rattle.call_read.proofs.Arguments.{all-readable}
use Rattle.call_walker.specs.declared.WalkerAnswer.{WalkerAnswer}
use Rattle.call_walker.specs.declared.Walker.{Walker}
use Rattle.call_walker.specs.declared.WalkerRead.{WalkerRead}
use Rattle.call_walker.specs.Walker.{counters_of, walker, walker_of, lost}
use Rattle.call_walker.specs.Step.{rules_by, type_item, step_answer, step_value, step_on}
use Rattle.call_walker.specs.Words.{WalkerOutcome, walker_outcome, walker_words, step_by, step_for, walk_by_item, walk_by, walker_step}
use Rattle.call_walker.specs.Walks.{Small, in_order, followed_by, walk_over, SameWalk, WalksAlike}
use Rattle.call_walker.proofs.Reached.{Reached, reached-start, reached-next, reached-possible}
use Rattle.call_walker.proofs.Exactly.{possible-found}
use Rattle.call_walker.proofs.Words.{words_back, item_back}
use Rattle.call_walker.proofs.Steps.{step-done, step_value_lem, step-on}
use Rattle.call_slots.specs.Answer.{CallAnswer, call_done}

-- ---- one step of the walk

-- a step that is accepted
walk_step : (w : Walker) (t : Tree) (s : List ℕ) (next n base : ℕ) (b : Buffers) (v : List ℕ) → lost w ≡ false → type_item w.convention s ≡ got t next n
    → step_answer w (type_of w.convention t) (length v) base b ≡ call_done
    → walker_step (walker_words w) s base b v
    ≡ walker_outcome (WalkerAnswer.Called call_done) (walker_words (step_on w (type_of w.convention t))) (overlay v (step_value w (type_of w.convention t) base b))
unfolding walker_step step_for
walk_step w t s next n base b v found read done =
    ap (λ (x : WalkerRead). walk_by x (walker_words w) s base b v) (words_back w found)
    ∙ ap (λ (x : Reading Tree). walk_by_item x (walker_words w) w base b v) read
    ∙ ap (λ (x : CallAnswer). step_by x (walker_words w) w (type_of w.convention t) base b v) done

-- counters of a small cursor
small-counters : (r : CallRules) (hidden : Bool) (d : Cursor) → Reached r hidden d → d.stack ≤ 60000 → Small (counters_of r d)
unfolding counters_of
small-counters (CallRules.Power f) hidden d h s =
    let q : d.stack / f.word ≤ d.stack = div-le_self d.stack f.word in
    record { general = omega (arith, q); floating = omega (arith, h.4); stack = omega arith }
small-counters CallRules.Z hidden d h s = record { general = omega (arith, h.1); floating = omega (arith, h.2); stack = omega arith }

clear_first : (u : Bool) (i m : ℕ) → pick u (suc i) m ≡ 0 → (u ≡ false) × (m ≡ 0)
clear_first true i m e = absurd (omega arith)
clear_first false i m e = (refl, e)

-- a type within the limits, whose bytes are no longer than an item's may be
abbrev Asked : Convention → Tree → Type 0
Asked c t = TypeWithin c t × (length (encode_tree t) ≤ max_length)

-- ---- the whole walk, from any cursor that arguments lead to

module _ (c : Convention) (e hidden : Bool) (base : ℕ) (b : Buffers) (image : length b.image ≡ 512) where
  abbrev r : CallRules
  r = rules_of c

  -- the walker at a cursor
  abbrev at : Cursor → Walker
  at d = walker c e hidden (counters_of r d)

  abbrev marked : CallRules
  marked = rules_by (at (start_of r hidden))

  next-same : (d : Cursor) (t : ValueType) → next_of marked d t (size_of c t) ≡ next_of r d t (size_of c t)
  next-same d t = next-marked e r d t (size_of c t)

  abbrev types_in : List Tree → List ValueType
  types_in ts = map (type_of c) ts

  abbrev arguments_at : Cursor → List Tree → List Placement
  arguments_at d ts = placements c (types_in ts) (spans_of c marked d (types_in ts))

  walk-fold : (ts : List Tree) (d : Cursor) (i : ℕ) (v : List ℕ) → All (Asked c) ts → Reached r hidden d → first_unclear c r d i (types_in ts) ≡ 0
      → (last_of c r d (types_in ts)).stack ≤ 60000 → (last_of c r d (types_in ts)).stack ≤ length b.area → arguments_answer marked base (arguments_at d ts) b ≡ call_done
      → All (λ (p : Placement). Readable marked base p b) (arguments_at d ts) → length v ≡ values_of c (types_in ts)
      → ((walk_over c (walker_words (at d)) ts base b v).answer ≡ WalkerAnswer.Called call_done)
      × ((walk_over c (walker_words (at d)) ts base b v).value ≡ values_at marked base (arguments_at d ts) b)
  unfolding walk_over first_unclear last_of spans_of placements arguments_answer first_of_all values_at values_of All
  walk-fold [] d i v a h clear small area done readable size = (refl, refl)
  walk-fold (t ∷ ts) d i v a h clear small area done readable size =
      let l = rules-lawful c in
      let ty : ValueType = type_of c t in
      let n : ℕ = size_of c ty in
      let next : Cursor = next_of r d ty n in
      let p : Placement = placement ty n (span_of marked d ty n) in
      let tail : List Placement = arguments_at next ts in
      let same : arguments_at (next_of marked d ty n) ts ≡ tail = ap (λ (k : Cursor). arguments_at k ts) (next-same d ty) in
      let known = clear_first (unclear_for r d ty) i (first_unclear c r next (suc i) (types_in ts)) clear in
      let each = or-done _ _ done in
      let on = fold.last-forward c r next (types_in ts) in
      let into : length (take n v) ≡ n = length-take-le n v (omega arith) in
      let found = possible-found (at d) (small-counters r hidden d h (omega (arith, small, on, fold.last-forward c r d (ty ∷ [])))) (reached-possible r hidden d l h) in
      let answer = step-done c e hidden d h l ty base b known.0 image (omega (arith, area, on)) each.0 (length (take n v)) into in
      let value : overlay (take n v) (step_value (at d) ty base b) ≡ value_at marked base p b =
      ap (overlay (take n v)) (step_value_lem c e hidden d h l ty base b) ∙ overlay-whole (take n v) (value_at marked base p b) (into ∙ sym (value-length marked base p b readable.0)) in
      let first : walker_step (walker_words (at d)) (encode_tree t) base b (take n v) ≡ walker_outcome (WalkerAnswer.Called call_done) (walker_words (at next)) (value_at marked base p b) =
      walk_step (at d) t (encode_tree t) _ _ base b (take n v) found (item_back c t a.0.0 a.0.1) answer
      ∙ ap₂ (walker_outcome (WalkerAnswer.Called call_done)) (ap walker_words (step-on c e hidden d h l ty base b)) value in
      let rest = walk-fold ts next (suc i) (drop n v) a.1 (reached-next c r hidden d ty l (within-sized c t a.0.0).some h) known.1 small area
      (subst (λ (x : List Placement). arguments_answer marked base x b ≡ call_done) same each.1)
      (subst (All (λ (p : Placement). Readable marked base p b)) same readable.1) (omega (arith, length-drop n v)) in
      let whole = ap (λ (o : WalkerOutcome). followed_by o.answer o (walk_over c o.words ts base b (drop n v))) first in (
        ap (λ (o : WalkerOutcome). o.answer) whole ∙ rest.0,
        ap (λ (o : WalkerOutcome). o.value) whole ∙ ap (λ (x : List ℕ). value_at marked base p b ++ x) (rest.1 ∙ ap (λ (x : List Placement). values_at marked base x b) (sym same)),
      )

-- ---- a whole signature

types-order : (c : Convention) (ts : Trees) → map (type_of c) (in_order ts) ≡ types_of c ts
unfolding in_order types_of
types-order c none = refl
types-order c (ts ▸ t) = map-append (type_of c) (in_order ts) (t ∷ []) ∙ ap (λ (x : List ValueType). x ++ type_of c t ∷ []) (types-order c ts)

all_asked : (c : Convention) (ts : Trees) → AllWithin c ts → length (encode_trees ts) ≤ max_length → All (Asked c) (in_order ts)
unfolding All in_order AllWithin
all_asked c none w h = tt
all_asked c (ts ▸ t) w h =
    let more = length_more ts t in
    each_both (Asked c) (in_order ts) (t ∷ []) (all_asked c ts w.0 (omega arith)) ((w.1, omega arith), tt)

-- the cursors of a call have small offsets
last-reached : (c : Convention) (r : CallRules) (d : Cursor) (ts : List ValueType) (v i : ℕ) → LawfulCalls r → All (Typed c) ts → fold.Reached r d v i
    → fold.Reached r (last_of c r d ts) (v + values_of c ts) (i + length ts)
unfolding last_of values_of All
last-reached c r d [] v i l a h =
    let x : v + 0 ≡ v = omega arith in
    let y : i + 0 ≡ i = omega arith in
    rw (x, y) h
last-reached c r d (t ∷ ts) v i l a h =
    let x : v + (size_of c t + values_of c ts) ≡ v + size_of c t + values_of c ts = omega arith in
    let y : i + suc (length ts) ≡ i + 1 + length ts = omega arith in
    rw (x, y) (last-reached c r (next_of r d t (size_of c t)) ts (v + size_of c t) (i + 1) l a.1 (fold.reached-more r d v i t (size_of c t) l a.0.sized.small h))

-- what is accepted passed its reading, with no argument unclear
accepted-clear : (g : Signature) (next n : ℕ) (x : CallAnswer) → after_reading (plan_answer (called (got g next n))).outcome x ≡ call_done
    → (unclear_in g ≡ 0) × (x ≡ call_done)
unfolding called plan_answer plan_in
accepted-clear g next n x e = go (unclear_in g) e
  where
    go : (u : ℕ) → after_reading (plan_answer (clear_read u g next n)).outcome x ≡ call_done → (u ≡ 0) × (x ≡ call_done)
    go zero q = (refl, q)
    go (suc i) q = let z : ◌≡◌ {A = ℕ} 0 1 = cc in absurd (omega arith)

accepted-read : (f : _) (x : CallAnswer) → after_reading (plan_answer (called (no f))).outcome x ≡ call_done → ⊥
unfolding called plan_answer
accepted-read f x e = let z : ◌≡◌ {A = ℕ} 0 1 = cc in omega arith

plan-area : (n : ℕ) (c : Convention) (e : Bool) (q : Option ValueType) (ts : List ValueType) → (last_cursor_in c q ts).stack ≤ (plan_in n c e q ts).area
unfolding plan_in
plan-area n c e q ts = area-holds c (last_cursor_in c q ts)

pub walks-alike : WalksAlike
unfolding read_answer read_values arguments_of walker_of plan_answer
walks-alike s ws base b v accept = go (signature_of s) refl accept
  where
    have : ReadLengths
    have = read_lengths v b.image b.area

    go : (x : Reading Signature) → signature_of s ≡ x
        → after_reading (plan_answer (called x)).outcome
        (or_else (first_of (read_tests have (plan_answer x).values (plan_answer x).area))
        (arguments_answer (rules_in (signature_answer x)) base (placements_in (signature_answer x) (plan_answer x)) b)) ≡ call_done
        → SameWalk s ws base b v
    go (no f) e y = absurd (accepted-read f _ y)
    go (got g next n) e y =
        let c : Convention = g.convention in
        let q : (Option ValueType) = result_type c g.result in
        let hidden : Bool = hidden_in c q in
        let mark : Bool = g.ellipsis in
        let r : CallRules = rules_by (walker_of g) in
        let l = rules-lawful c in
        let k : Cursor = start_in c q in
        let ts : List Tree = in_order g.arguments in
        let types : List ValueType = map (type_of c) ts in
        let order : types ≡ types_of c g.arguments = types-order c g.arguments in
        let a = accepted s g next n e in
        let read = accepted-clear g next n _ y in
        let both = or-done _ _ read.1 in
        let lent : Lent have (plan_answer (got g next n)) = tests-passed have (plan_answer (got g next n)) both.0 in
        let ps : List Placement = placements c types (spans_of c r k types) in
        let same : placements_in (signature_answer (got g next n)) (plan_answer (got g next n)) ≡ ps =
        arguments-got g next n ∙ ap (λ (z : List ValueType). placements c z (spans_of c r k z)) (sym order) in
        let whole : arguments_of s ≡ ps = ap (λ (z : Reading Signature). placements_in (signature_answer z) (plan_answer z)) e ∙ same in
        let done : arguments_answer r base ps b ≡ call_done = subst (λ (z : List Placement). arguments_answer r base z b ≡ call_done) same both.1 in
        let ready = each-ready s (rules_in (signature_answer (got g next n))) (length b.image) (length b.area) (sym (ap (λ (x : Reading Signature). rules_in (signature_answer x)) e)) lent.image (rw e lent.area) in
        let readable = all-readable r base b ps (subst (All (InBuffers r (length b.image) (length b.area))) whole ready) done in
        let size : length v ≡ values_of c types = lent.values ∙ (sym (planned-values n c mark q (types_of c g.arguments)) ∙ ap (values_of c) (sym order)) in
        let short = length-encode g in
        let asked = all_asked c g.arguments a.within.arguments (omega (arith, short, a.within.short)) in
        let clear : first_unclear c (rules_of c) k 0 types ≡ 0 = ap (first_unclear c (rules_of c) k 0) order ∙ read.0 in
        let last : last_of c (rules_of c) k types ≡ last_cursor_in c q (types_of c g.arguments) = ap (last_of c (rules_of c) k) order in
        let typed = all_typed c g.arguments a.arguments in
        let bounds = last-reached c (rules_of c) k (types_of c g.arguments) 0 0 l typed (fold.reached-start (rules_of c) hidden l) in
        let few = a.within.few in
        let small : (last_cursor_in c q (types_of c g.arguments)).stack ≤ 60000 = omega (arith, bounds.stack, length-of-types c g.arguments, few) in
        let room : (last_cursor_in c q (types_of c g.arguments)).stack ≤ length b.area = omega (arith, plan-area n c mark q (types_of c g.arguments), lent.area) in
        let walker_step = walk-fold c mark hidden base b lent.image ts k 0 v asked (reached-start (rules_of c) hidden l) clear (rw last small) (rw last room) done readable size in
        let total : length v ≡ length (values_at r base ps b) = size ∙ sym (length-values r base ps b readable ∙ placements-sizes c r k types) in
        record {
          start = rw e;
          answer = rw e walker_step.0;
          values = rw e (walker_step.1 ∙ sym (ap (λ (z : List Placement). overlay v (values_at r base z b)) same ∙ overlay-whole v (values_at r base ps b) total));
        }
