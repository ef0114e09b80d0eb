-- What is put after a cursor leaves what stands before it: over any rules. Assumes nothing.
-- ---- one place
use mathlib.Core.Path.{◌≡◌, refl, ◌∙◌}
use mathlib.Core.Logic.{inl, inr}
use mathlib.Core.List.{List, [], ◌∷◌}
use Prim.Native.Nat.{ℕ, ◌+◌, ◌*◌, ◌≤◌}
use native.Mathlib.Omega.{arith}
use lib.ListN.{length, take, drop}
use Rattle.base_words.specs.Basics.{All}
use Rattle.base_words.proofs.Splices.{splice-other}
use Rattle.base_words.proofs.Basics.{take_short}
use Rattle.base_words.proofs.Each.{each_both, each_more}
use Rattle.base_conventions.specs.declared.Convention.{Convention}
use Rattle.sig_types.specs.declared.ValueType.{ValueType}
use Rattle.sig_types.specs.Sizes.{size_of}
use Rattle.plan_places.specs.declared.Cursor.{Cursor}
use Rattle.plan_places.specs.declared.CallRules.{CallRules}
use Rattle.plan_places.specs.Spots.{Spot, general, floating, area, copies}
use Rattle.plan_places.specs.Step.{word_of, span_of, next_of}
use Rattle.plan_places.proofs.Bounds.{Named, named-next}
use Rattle.plan_places.proofs.Between.{From, from-earlier, step-between, step-forward}
use Rattle.plan_places.proofs.Registers.{step-numbered}
use Rattle.plan_plans.specs.Plan.{spans_of}
use Rattle.call_slots.specs.Buffers.{Buffers, Slot, put, put_all, bytes_at}
use Rattle.call_slots.specs.Forms.{float_bytes}
use Rattle.call_registers.proofs.Registers.{spread-short}
use Rattle.call_slots.specs.Placements.{Placement, placement, placements, standing, slots_of, slots_of_all}

-- m bytes from a spot on end at or before a cursor
abbrev pub Upto : Cursor → Spot → ℕ → Type 0
Upto k (general n) m = 8 * n + m ≤ 8 * k.general
Upto k (floating n) m = 8 * n + m ≤ 8 * k.floating
Upto k (area n) m = n + m ≤ k.stack
Upto k (copies n) m = n + m ≤ k.copies

-- registers lie in their bank's half of the image
abbrev pub Banked : Spot → ℕ → Type 0
Banked (general n) m = 8 * n + m ≤ 256
Banked (floating n) m = 8 * n + m ≤ 256
Banked (area n) m = Unit {0}
Banked (copies n) m = Unit {0}

pub kept : (k : Cursor) (p : Spot) (m : ℕ) (q : Spot) (bs : List ℕ) (b : Buffers) → Upto k p m → Banked p m → From k q → Banked q (length bs)
    → bytes_at p m (put q bs b) ≡ bytes_at p m b
unfolding bytes_at put
kept k (general n) m (general i) bs b u x f y = splice-other b.image (8 * i) bs (8 * n) m (inl (omega arith))
kept k (general n) m (floating i) bs b u x f y = splice-other b.image (256 + 8 * i) bs (8 * n) m (inl (omega arith))
kept k (general n) m (area i) bs b u x f y = refl
kept k (general n) m (copies i) bs b u x f y = refl
kept k (floating n) m (general i) bs b u x f y = splice-other b.image (8 * i) bs (256 + 8 * n) m (inr (omega arith))
kept k (floating n) m (floating i) bs b u x f y = splice-other b.image (256 + 8 * i) bs (256 + 8 * n) m (inl (omega arith))
kept k (floating n) m (area i) bs b u x f y = refl
kept k (floating n) m (copies i) bs b u x f y = refl
kept k (area n) m (general i) bs b u x f y = refl
kept k (area n) m (floating i) bs b u x f y = refl
kept k (area n) m (area i) bs b u x f y = splice-other b.area i bs n m (inl (omega arith))
kept k (area n) m (copies i) bs b u x f y = refl
kept k (copies n) m (general i) bs b u x f y = refl
kept k (copies n) m (floating i) bs b u x f y = refl
kept k (copies n) m (area i) bs b u x f y = refl
kept k (copies n) m (copies i) bs b u x f y = splice-other b.copies i bs n m (inl (omega arith))

-- ---- several slots, all after a cursor

-- a slot that starts at or after a cursor
abbrev pub Later : Cursor → Slot → Type 0
Later k s = From k s.spot × Banked s.spot (length s.bytes)

pub kept-all : (k : Cursor) (p : Spot) (m : ℕ) (ss : List Slot) (b : Buffers) → Upto k p m → Banked p m → All (Later k) ss → bytes_at p m (put_all ss b) ≡ bytes_at p m b
unfolding put_all All
kept-all k p m [] b u x h = refl
kept-all k p m (s ∷ ss) b u x h =
    kept-all k p m ss (put s.spot s.bytes b) u x h.1 ∙ kept k p m s.spot s.bytes b u x h.0.0 h.0.1

-- ---- the slots of arguments

pub slots-later : (r : CallRules) (base : ℕ) (k : Cursor) (t : ValueType) (n : ℕ) (v : List ℕ) → word_of r ≤ 8 → Named r k
    → All (Later k) (slots_of r base (placement t n (span_of r k t n)) v)
unfolding slots_of All
slots-later r base k t n v most named =
    let b = step-between r k t n in
    let q = step-numbered r k t n named in
    let p : Placement = placement t n (span_of r k t n) in (
      (b.floating-from, omega (arith, take_short (8 * p.span.floating.count) (float_bytes r t v))),
      (
        (b.general-from, omega (arith, spread-short (word_of r) p.span.general.count (standing r base p v) most)),
        ((omega arith, tt), ((b.copy-from, tt), tt)),
      ),
    )

pub all-later : (c : Convention) (r : CallRules) (base : ℕ) (k : Cursor) (ts : List ValueType) (v : List ℕ) → word_of r ≤ 8 → Named r k
    → All (Later k) (slots_of_all r base (placements c ts (spans_of c r k ts)) v)
unfolding placements spans_of slots_of_all All
all-later c r base k [] v most named = tt
all-later c r base k (t ∷ ts) v most named =
    let n : ℕ = size_of c t in
    let d : Cursor = next_of r k t n in
    each_both (Later k) (slots_of r base (placement t n (span_of r k t n)) (take n v)) (slots_of_all r base (placements c ts (spans_of c r d ts)) (drop n v))
    (slots-later r base k t n (take n v) most named)
    (each_more (Later d) (Later k) (λ s h. (from-earlier (step-forward r k t n) s.spot h.0, h.1)) (slots_of_all r base (placements c ts (spans_of c r d ts)) (drop n v)) (all-later c r base d ts (drop n v) most (named-next r k t n named)))
