-- The slots of distinct arguments have no byte in common (specs/Places.antt). Assumes nothing.
use mathlib.Core.Path.{◌≡◌, refl, subst}
use mathlib.Core.Logic.{inl, inr}
use mathlib.Core.Bool.{Bool, true, false}
use mathlib.Core.List.{List, [], ◌∷◌, ◌++◌}
use Prim.Native.Nat.{ℕ, zero, suc, ◌+◌, ◌*◌, ◌≤◌, ◌<◌}
use native.Mathlib.Omega.{arith}
use borrow.Author.Tests.{ltb-true, ltb-false}
use lib.Dec.{ltb}
use lib.ListN.{length, get_or, take, drop}
use Rattle.base_words.specs.Basics.{All}
use Rattle.base_words.proofs.Basics.{take_short}
use Rattle.base_conventions.specs.declared.Convention.{Convention}
use Rattle.sig_types.specs.declared.ValueType.{ValueType}
use Rattle.sig_types.specs.Sizes.{size_of}
use Rattle.sig_items.specs.declared.Fault.{Fault}
use Rattle.sig_items.specs.Reading.{Reading, got, no}
use Rattle.sig_signatures.specs.Signature.{Signature}
use Rattle.sig_signatures.specs.Read.{signature_of}
use Rattle.sig_signatures.specs.Answer.{result_type, signature_answer}
use Rattle.sig_signatures.specs.Types.{types_of}
use Rattle.plan_places.specs.declared.Cursor.{Cursor}
use Rattle.plan_places.specs.declared.CallRules.{CallRules}
use Rattle.plan_places.specs.Spots.{Spot, general, floating, area, copies}
use Rattle.plan_places.specs.Step.{rules_of, with_ellipsis, word_of, span_of, next_of}
use Rattle.plan_places.proofs.Bounds.{Named, named-next, named_start}
use Rattle.plan_places.proofs.Marked.{named-marked}
use Rattle.plan_places.proofs.Between.{From, step-between}
use Rattle.plan_places.proofs.Registers.{step-numbered}
use Rattle.plan_plans.specs.Plan.{spans_of, hidden_in, start_in, plan_answer}
use Rattle.call_slots.specs.Buffers.{Slot}
use Rattle.call_slots.specs.Placements.{Placement, placement, placements, standing, slots_of, slots_of_all}
use Rattle.call_slots.specs.Helpers.{Held}
use Rattle.call_slots.specs.Forms.{float_bytes}
use Rattle.call_registers.proofs.Registers.{spread-short}
use Rattle.call_slots.specs.Arguments.{placements_in, arguments_of, rules_in, rules_for}
use Rattle.call_slots.proofs.Planned.{copy-in}
use Rattle.call_slots.proofs.Answered.{Carried, arguments-got, carried}
use Rattle.call_roundtrip.specs.Places.{Byte, in_image, in_area, in_copies, CoversFrom, Touches, slot_lists, SlotsApart}
use Rattle.call_roundtrip.proofs.Kept.{Upto, Banked, Later, all-later}

-- ---- one slot on each side of a cursor
covers-apart : (k : Cursor) (p : Spot) (m : ℕ) (q : Spot) (n : ℕ) (x : Byte) → Upto k p m → Banked p m → From k q → Banked q n
    → CoversFrom p m x → CoversFrom q n x → ⊥
covers-apart k (general a) m (general b) n (in_image i) u x f y s t = omega arith
covers-apart k (general a) m (floating b) n (in_image i) u x f y s t = omega arith
covers-apart k (general a) m (area b) n (in_image i) u x f y s t = t
covers-apart k (general a) m (copies b) n (in_image i) u x f y s t = t
covers-apart k (general a) m q n (in_area i) u x f y s t = s
covers-apart k (general a) m q n (in_copies i) u x f y s t = s
covers-apart k (floating a) m (general b) n (in_image i) u x f y s t = omega arith
covers-apart k (floating a) m (floating b) n (in_image i) u x f y s t = omega arith
covers-apart k (floating a) m (area b) n (in_image i) u x f y s t = t
covers-apart k (floating a) m (copies b) n (in_image i) u x f y s t = t
covers-apart k (floating a) m q n (in_area i) u x f y s t = s
covers-apart k (floating a) m q n (in_copies i) u x f y s t = s
covers-apart k (area a) m q n (in_image i) u x f y s t = s
covers-apart k (area a) m (general b) n (in_area i) u x f y s t = t
covers-apart k (area a) m (floating b) n (in_area i) u x f y s t = t
covers-apart k (area a) m (area b) n (in_area i) u x f y s t = omega arith
covers-apart k (area a) m (copies b) n (in_area i) u x f y s t = t
covers-apart k (area a) m q n (in_copies i) u x f y s t = s
covers-apart k (copies a) m q n (in_image i) u x f y s t = s
covers-apart k (copies a) m q n (in_area i) u x f y s t = s
covers-apart k (copies a) m (general b) n (in_copies i) u x f y s t = t
covers-apart k (copies a) m (floating b) n (in_copies i) u x f y s t = t
covers-apart k (copies a) m (area b) n (in_copies i) u x f y s t = t
covers-apart k (copies a) m (copies b) n (in_copies i) u x f y s t = omega arith

-- ---- several

-- a slot that ends at or before a cursor
abbrev Before : Cursor → Slot → Type 0
Before k s = Upto k s.spot (length s.bytes) × Banked s.spot (length s.bytes)

covers-later : (k : Cursor) (s : Slot) (ts : List Slot) (x : Byte) → Before k s → All (Later k) ts → CoversFrom s.spot (length s.bytes) x → Touches ts x → ⊥
unfolding All Touches
covers-later k s [] x b l h t = t
covers-later k s (q ∷ ts) x b l h (inl t) = covers-apart k s.spot (length s.bytes) q.spot (length q.bytes) x b.0 b.1 l.0.0 l.0.1 h t
covers-later k s (q ∷ ts) x b l h (inr t) = covers-later k s ts x b l.1 h t

touches-apart : (k : Cursor) (ss ts : List Slot) (x : Byte) → All (Before k) ss → All (Later k) ts → Touches ss x → Touches ts x → ⊥
unfolding All Touches
touches-apart k [] ts x b l s t = s
touches-apart k (q ∷ ss) ts x b l (inl s) t = covers-later k q ts x b.0 l s t
touches-apart k (q ∷ ss) ts x b l (inr s) t = touches-apart k ss ts x b.1 l s t

touches-left : (ss ts : List Slot) (x : Byte) → Touches ss x → Touches (ss ++ ts) x
unfolding Touches
touches-left [] ts x s = absurd s
touches-left (q ∷ ss) ts x (inl s) = inl s
touches-left (q ∷ ss) ts x (inr s) = inr (touches-left ss ts x s)

touches-right : (ss ts : List Slot) (x : Byte) → Touches ts x → Touches (ss ++ ts) x
unfolding Touches
touches-right [] ts x t = t
touches-right (q ∷ ss) ts x t = inr (touches-right ss ts x t)

-- an argument's slots are among those of all
touches-some : (r : CallRules) (base : ℕ) (ps : List Placement) (v : List ℕ) (i : ℕ) (x : Byte) → Touches (get_or (slot_lists r base ps v) i []) x → Touches (slots_of_all r base ps v) x
unfolding slot_lists slots_of_all
touches-some r base [] v zero x t = t
touches-some r base [] v (suc i) x t = t
touches-some r base (p ∷ ps) v zero x t = touches-left (slots_of r base p (take p.size v)) (slots_of_all r base ps (drop p.size v)) x t
touches-some r base (p ∷ ps) v (suc i) x t =
    touches-right (slots_of r base p (take p.size v)) (slots_of_all r base ps (drop p.size v)) x (touches-some r base ps (drop p.size v) i x t)

-- ---- the arguments of a plan

slots-before : (r : CallRules) (base : ℕ) (k : Cursor) (t : ValueType) (n : ℕ) (v : List ℕ) → Named r k → Held r (placement t n (span_of r k t n)) → length v ≤ n
    → All (Before (next_of r k t n)) (slots_of r base (placement t n (span_of r k t n)) v)
unfolding slots_of All
slots-before r base k t n v named h l =
    let b = step-between r k t n in
    let q = step-numbered r k t n named in
    let p : Placement = placement t n (span_of r k t n) in
    let f = take_short (8 * p.span.floating.count) (float_bytes r t v) in
    let g = spread-short (word_of r) p.span.general.count (standing r base p v) h.word.1 in
    let m = take_short p.span.memory.length (drop (word_of r * p.span.general.count) (standing r base p v)) in
    ((omega arith, omega arith), ((omega arith, omega arith), ((omega arith, tt), ((copy-in r p v (next_of r k t n).copies h l b.copy-to, tt), tt))))

ordered-apart : (c : Convention) (r : CallRules) (base : ℕ) (k : Cursor) (ts : List ValueType) (v : List ℕ) (i j : ℕ) (x : Byte) → Named r k
    → All (Held r) (placements c ts (spans_of c r k ts)) → i < j
    → Touches (get_or (slot_lists r base (placements c ts (spans_of c r k ts)) v) i []) x → Touches (get_or (slot_lists r base (placements c ts (spans_of c r k ts)) v) j []) x → ⊥
unfolding placements spans_of slot_lists All Touches
ordered-apart c r base k [] v zero j x named h l s t = s
ordered-apart c r base k [] v (suc i) j x named h l s t = s
ordered-apart c r base k (y ∷ ts) v zero zero x named h l s t = omega arith
ordered-apart c r base k (y ∷ ts) v zero (suc j) x named h l s t =
    let n : ℕ = size_of c y in
    let d : Cursor = next_of r k y n in
    let ps : List Placement = placements c ts (spans_of c r d ts) in
    touches-apart d (slots_of r base (placement y n (span_of r k y n)) (take n v)) (slots_of_all r base ps (drop n v)) x
    (slots-before r base k y n (take n v) named h.0 (take_short n v)) (all-later c r base d ts (drop n v) h.0.word.1 (named-next r k y n named)) s
    (touches-some r base ps (drop n v) j x t)
ordered-apart c r base k (y ∷ ts) v (suc i) zero x named h l s t = omega arith
ordered-apart c r base k (y ∷ ts) v (suc i) (suc j) x named h l s t =
    ordered-apart c r base (next_of r k y (size_of c y)) ts (drop (size_of c y) v) i j x (named-next r k y (size_of c y) named) h.1 (omega arith) s t

-- ---- every signature

none-touched : (base : ℕ) (v : List ℕ) (f : Fault) (i : ℕ) (x : Byte)
    → Touches (get_or (slot_lists (rules_in (signature_answer (no f))) base (placements_in (signature_answer (no f)) (plan_answer (no f))) v) i []) x → ⊥
unfolding placements_in placements plan_answer slot_lists Touches
none-touched base v f zero x t = t
none-touched base v f (suc i) x t = t

sorted : (s : List ℕ) (base : ℕ) (v : List ℕ) (i j : ℕ) (x : Byte) → i < j → Touches (get_or (slot_lists (rules_for s) base (arguments_of s) v) i []) x
    → Touches (get_or (slot_lists (rules_for s) base (arguments_of s) v) j []) x → ⊥
unfolding arguments_of
sorted s base v i j x l = go (signature_of s) (carried s)
  where
    go : (q : Reading Signature) → Carried (signature_answer q) (plan_answer q)
        → Touches (get_or (slot_lists (rules_in (signature_answer q)) base (placements_in (signature_answer q) (plan_answer q)) v) i []) x
        → Touches (get_or (slot_lists (rules_in (signature_answer q)) base (placements_in (signature_answer q) (plan_answer q)) v) j []) x → ⊥
    go (got g next n) h a b =
        let c : Convention = g.convention in
        let r : CallRules = with_ellipsis g.ellipsis (rules_of c) in
        let same = arguments-got g next n in
        ordered-apart c r base (start_in c (result_type c g.result)) (types_of c g.arguments) v i j x
        (named-marked g.ellipsis (rules_of c) _ (named_start (rules_of c) (hidden_in c (result_type c g.result)))) (subst (All (Held r)) same h.held) l
        (subst (λ (ps : List Placement). Touches (get_or (slot_lists r base ps v) i []) x) same a)
        (subst (λ (ps : List Placement). Touches (get_or (slot_lists r base ps v) j []) x) same b)
    go (no f) h a b = none-touched base v f i x a

pub slots_apart : SlotsApart
slots_apart s base v i j x h a b = go (ltb i j) refl
  where
    go : (t : Bool) → ltb i j ≡ t → ⊥
    go true e = sorted s base v i j x (ltb-true i j e) a b
    go false e = let l : j ≤ i = ltb-false i j e in sorted s base v j i x (omega arith) b a
