-- A span's registers one by one. Assumes nothing.
use mathlib.Core.Path.{◌≡◌, refl, ap, ◌∙◌}
use mathlib.Core.Bool.{Bool, true, false}
use mathlib.Core.List.{List, ◌++◌, map}
use Prim.Native.Nat.{ℕ, zero, suc, ◌+◌, ◌-◌, ◌≤◌, ◌<◌}
use native.Mathlib.Omega.{arith}
use native.Mathlib.Nat.{add-zero}
use lib.ListN.{length, get_or, length-append, get_or-append}
use lib.Seq.{get_or-append-add}
use Rattle.base_words.specs.Basics.{pick}
use Rattle.sig_types.specs.declared.ValueType.{ValueType}
use Rattle.plan_places.specs.declared.Bank.{Bank}
use Rattle.plan_places.specs.declared.Place.{Place}
use Rattle.plan_places.specs.declared.Cursor.{Cursor}
use Rattle.plan_places.specs.declared.Span.{Span}
use Rattle.plan_places.specs.declared.CallRules.{CallRules}
use Rattle.plan_places.specs.declared.ResultPlaces.{ResultPlaces}
use Rattle.plan_places.specs.declared.ZClass.{ZClass}
use Rattle.plan_places.specs.ZSeries.{z_class, z_span_of}
use Rattle.plan_places.specs.Values.{pointer}
use Rattle.plan_places.specs.Step.{word_of, span_of, next_of, fresh_cursor, hidden_for, returning, result_of}
use Rattle.plan_places.specs.Spots.{Spot, general, floating, area, copies, Owns, ArgumentRegister}
use Rattle.plan_places.specs.Places.{up_from, register_place, range_places, registers_of, Numbered, no_place}
use Rattle.plan_places.specs.Helpers.{register_count, ResultNumbered}
use Rattle.plan_places.proofs.Between.{step-between}
use Rattle.plan_places.proofs.Bounds.{Named, named-fresh, named-next}

-- ---- length

length-in : (b : Bank) (first n : ℕ) → length (map (register_place b) (up_from first 1 n)) ≡ n
unfolding up_from
length-in b first zero = refl
length-in b first (suc n) = ap suc (length-in b (first + 1) n)

pub length-registers : (s : Span) → length (registers_of s) ≡ register_count s
unfolding registers_of
length-registers s =
    length-append (range_places Bank.Floating s.floating) (range_places Bank.General s.general)
    ∙ rw (length-in Bank.Floating s.floating.first s.floating.count, length-in Bank.General s.general.first s.general.count)

-- ---- by index

register-in : (b : Bank) (first n i : ℕ) → i < n → get_or (map (register_place b) (up_from first 1 n)) i no_place ≡ register_place b (first + i)
unfolding up_from
register-in b first zero i h = absurd (omega arith)
register-in b first (suc n) zero h = rw (add-zero first)
register-in b first (suc n) (suc i) h =
    let e : first + 1 + i ≡ first + suc i = omega arith in
    register-in b (first + 1) n i (omega arith) ∙ ap (register_place b) e

pub register-floating : (s : Span) (i : ℕ) → i < s.floating.count → get_or (registers_of s) i no_place ≡ register_place Bank.Floating (s.floating.first + i)
unfolding registers_of
register-floating s i h =
    let a : List Place = range_places Bank.Floating s.floating in
    let n : length a ≡ s.floating.count = length-in Bank.Floating s.floating.first s.floating.count in
    get_or-append a (range_places Bank.General s.general) no_place i (omega arith)
    ∙ register-in Bank.Floating s.floating.first s.floating.count i h

pub register-general : (s : Span) (i : ℕ) → s.floating.count ≤ i → i < register_count s
    → get_or (registers_of s) i no_place ≡ register_place Bank.General (s.general.first + (i - s.floating.count))
unfolding registers_of
register-general s i l h =
    let a : List Place = range_places Bank.Floating s.floating in
    let b : List Place = range_places Bank.General s.general in
    let n : length a ≡ s.floating.count = length-in Bank.Floating s.floating.first s.floating.count in
    let e : i ≡ length a + (i - s.floating.count) = omega arith in
    ap (λ (j : ℕ). get_or (a ++ b) j no_place) e
    ∙ get_or-append-add a b (i - s.floating.count) no_place
    ∙ register-in Bank.General s.general.first s.general.count (i - s.floating.count) (omega arith)

-- ---- bounds

named_small : (r : CallRules) (c : Cursor) → Named r c → (c.general ≤ 32) × (c.floating ≤ 32)
named_small (CallRules.Power f) c h = omega arith
named_small CallRules.Z c h = omega arith

-- a step's registers are numbers of their bank
pub step-numbered : (r : CallRules) (c : Cursor) (t : ValueType) (n : ℕ) → Named r c → Numbered (span_of r c t n)
step-numbered r c t n h =
    let b = step-between r c t n in
    let s = named_small r (next_of r c t n) (named-next r c t n h) in
    omega arith

named-returning : (r : CallRules) → Named (returning r) (fresh_cursor r)
unfolding returning fresh_cursor
named-returning (CallRules.Power f) = omega arith
named-returning CallRules.Z = omega arith

-- those of a result too
pub result-numbered : (r : CallRules) (t : ValueType) (n : ℕ) → ResultNumbered (result_of r t n)
unfolding result_of
result-numbered r t n = go (hidden_for r t)
  where
    go : (h : Bool) → ResultNumbered (pick h (ResultPlaces.Hidden (span_of r (fresh_cursor r) pointer (word_of r))) (ResultPlaces.Registers (span_of (returning r) (fresh_cursor r) t n)))
    go true = step-numbered r (fresh_cursor r) pointer (word_of r) (named-fresh r)
    go false = step-numbered (returning r) (fresh_cursor r) t n (named-returning r)

z-registers : (c : Cursor) (class : ZClass) (n : ℕ) (x : Spot) → Named CallRules.Z c → Owns (z_span_of c class n) x → ArgumentRegister CallRules.Z x
unfolding z_span_of
z-registers c ZClass.Float n (general k) h o = omega arith
z-registers c ZClass.Simple n (general k) h o = omega arith
z-registers c ZClass.Reference n (general k) h o = omega arith
z-registers c ZClass.Float n (floating k) h o = let e : k ≡ c.floating = omega arith in rw e (omega arith)
z-registers c ZClass.Simple n (floating k) h o = absurd (omega arith)
z-registers c ZClass.Reference n (floating k) h o = absurd (omega arith)
z-registers c class n (area k) h o = tt
z-registers c class n (copies k) h o = tt

-- and those that the convention names
pub step-registers : (r : CallRules) (c : Cursor) (t : ValueType) (n : ℕ) (x : Spot) → Named r c → Owns (span_of r c t n) x → ArgumentRegister r x
unfolding span_of
step-registers (CallRules.Power f) c t n (general k) h o =
    let b = step-between (CallRules.Power f) c t n in
    let d = named-next (CallRules.Power f) c t n h in
    omega arith
step-registers (CallRules.Power f) c t n (floating k) h o =
    let b = step-between (CallRules.Power f) c t n in
    let d = named-next (CallRules.Power f) c t n h in
    omega arith
step-registers (CallRules.Power f) c t n (area k) h o = tt
step-registers (CallRules.Power f) c t n (copies k) h o = tt
step-registers CallRules.Z c t n x h o = z-registers c (z_class t n) n x h o
