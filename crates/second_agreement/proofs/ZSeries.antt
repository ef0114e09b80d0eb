-- Z: each slot of 001's SCAN is where the first planner's cursor puts it. Assumes nothing.
use Rattle.std.proofs.Common.{Some}
use mathlib.Core.Path.{◌≡◌, refl, sym, ap, ap₂, ◌∙◌}
use mathlib.Core.Bool.{Bool, true, false}
use mathlib.Core.List.{List, [], ◌∷◌, map}
use Prim.Native.Nat.{ℕ, zero, suc, ◌+◌, ◌-◌, ◌*◌, ◌%◌, ◌≤◌, ◌<◌, min}
use native.Mathlib.Omega.{arith}
use native.Mathlib.Nat.{add-zero}
use borrow.Author.Tests.{ltb-true, ltb-false}
use lib.Dec.{ltb, eqb}
use Rattle.base_words.specs.Basics.{pick, round_up}
use Rattle.base_conventions.specs.declared.Convention.{Convention}
use Rattle.sig_types.specs.declared.Equivalent.{Equivalent}
use Rattle.sig_types.specs.declared.FloatFormat.{FloatFormat}
use Rattle.sig_types.specs.declared.Shape.{Shape}
use Rattle.sig_types.specs.declared.ValueType.{ValueType}
use Rattle.sig_types.specs.Sizes.{size_of}
use Rattle.plan_places.specs.declared.Cursor.{Cursor}
use Rattle.plan_places.specs.declared.CallRules.{CallRules}
use Rattle.plan_places.specs.declared.ZClass.{ZClass}
use Rattle.plan_places.specs.Values.{cursor}
use Rattle.plan_places.specs.ZSeries.{by_size, z_class, z_span_of, z_next_of}
use Rattle.plan_places.specs.Step.{span_of, next_of, fresh_cursor, start_of, hidden_for, returning, result_of}
use Rattle.plan_plans.specs.Plan.{spans_of, last_of}
use Rattle.second_parameters.specs.declared.Parameter.{Parameter}
use Rattle.second_slot_scan.specs.declared.Scan.{Scan}
use Rattle.second_slot_scan.specs.declared.ScannedSlot.{ScannedSlot}
use Rattle.second_slot_scan.specs.declared.Copied.{Copied}
use Rattle.second_parameters.specs.Values.{run_of}
use Rattle.second_slot_scan.specs.Slots.{initial, double_or_float, other_size, copied, copy_at, in_floating, in_general, in_other, slot_by, slot_of, slots_from, scanned_to, z_returned}
use Rattle.second_agreement.specs.Agreement.{parameter_of, returned_of}

-- ---- the classes

abbrev is_float : ZClass → Bool
is_float ZClass.Float = true
is_float ZClass.Simple = false
is_float ZClass.Reference = false

abbrev is_copied : ZClass → Bool
is_copied ZClass.Float = false
is_copied ZClass.Simple = false
is_copied ZClass.Reference = true

by-size : (n : ℕ) → (false ≡ is_float (by_size n)) × (other_size n ≡ is_copied (by_size n))
by-size n = go (eqb n 1) (eqb n 2) (eqb n 4) (eqb n 8)
  where
    go : (a b c d : Bool)
        → (false ≡ is_float (pick a ZClass.Simple (pick b ZClass.Simple (pick c ZClass.Simple (pick d ZClass.Simple ZClass.Reference)))))
        × (pick a false (pick b false (pick c false (pick d false true))) ≡ is_copied (pick a ZClass.Simple (pick b ZClass.Simple (pick c ZClass.Simple (pick d ZClass.Simple ZClass.Reference)))))
    go true b c d = (refl, refl)
    go false true c d = (refl, refl)
    go false false true d = (refl, refl)
    go false false false true = (refl, refl)
    go false false false false = (refl, refl)

class-agrees : (t : ValueType) (n : ℕ) → (double_or_float t ≡ is_float (z_class t n)) × (copied t n ≡ is_copied (z_class t n))
unfolding z_class copied
class-agrees (ValueType.Integer k) n = (refl, refl)
class-agrees (ValueType.Float FloatFormat.Single) n = (refl, refl)
class-agrees (ValueType.Float FloatFormat.Double) n = (refl, refl)
class-agrees (ValueType.Float FloatFormat.LongDouble) n = (refl, refl)
class-agrees (ValueType.Struct s) n = go s.equivalent
  where
    go : (e : Equivalent) → (double_or_float (ValueType.Struct (record { size = s.size; align = s.align; equivalent = e })) ≡ is_float (z_class (ValueType.Struct (record { size = s.size; align = s.align; equivalent = e })) n))
        × (copied (ValueType.Struct (record { size = s.size; align = s.align; equivalent = e })) n ≡ is_copied (z_class (ValueType.Struct (record { size = s.size; align = s.align; equivalent = e })) n))
    go Equivalent.Nothing = by-size n
    go Equivalent.Single = (refl, refl)
    go Equivalent.Double = (refl, refl)

-- ---- one argument

abbrev pub cursor_of : Scan → Cursor
cursor_of s = cursor s.gr s.fr s.starg s.copies

-- "f0, f2, f4, f6": the next FPR's number is even
abbrev pub Even : Scan → Type 0
Even s = s.fr % 2 ≡ 0

pub record Same (p : ScannedSlot) (c : Cursor) (k : ZClass) (n : ℕ) : Type 0 where
  pub parameter : p.parameter ≡ parameter_of (z_span_of c k n)
  pub next : cursor_of p.next ≡ z_next_of c k n
  pub even : Even p.next

-- whether a register before `past` is left
left-none : (n past : ℕ) → past ≤ n → min 1 (past - n) ≡ 0
left-none n past h = omega arith

left_one : (n past : ℕ) → n < past → min 1 (past - n) ≡ 1
left_one n past h = omega arith

even-past : (n : ℕ) → n % 2 ≡ 0 → 6 < n → 8 ≤ n
even-past n h l = omega arith

slot-agrees : (s : Scan) (k : ZClass) (n : ℕ) → Even s → Same (slot_by (is_float k) s (copy_at (is_copied k) s.copies n)) (cursor_of s) k n
unfolding slot_by z_span_of z_next_of parameter_of run_of
slot-agrees s ZClass.Float n h = go (ltb 6 s.fr) refl
  where
    go : (b : Bool) → ltb 6 s.fr ≡ b → Same (pick b (in_other s (copy_at false s.copies n)) (in_floating s (copy_at false s.copies n))) (cursor_of s) ZClass.Float n
    go true q =
        let z : min 1 (8 - s.fr) ≡ 0 = left-none s.fr 8 (even-past s.fr h (ltb-true 6 s.fr q)) in
        record { parameter = rw z; next = rw (z, add-zero s.gr, add-zero s.fr); even = h }
    go false q =
        let z : min 1 (8 - s.fr) ≡ 1 = left_one s.fr 8 (omega (arith, ltb-false 6 s.fr q)) in
        record { parameter = rw z; next = rw (z, add-zero s.gr, add-zero s.starg); even = omega arith }
slot-agrees s ZClass.Simple n h = go (ltb 6 s.gr) refl
  where
    go : (b : Bool) → ltb 6 s.gr ≡ b → Same (pick b (in_other s (copy_at false s.copies n)) (in_general s (copy_at false s.copies n))) (cursor_of s) ZClass.Simple n
    go true q =
        let z : min 1 (7 - s.gr) ≡ 0 = left-none s.gr 7 (ltb-true 6 s.gr q) in
        record { parameter = rw z; next = rw (z, add-zero s.gr, add-zero s.fr); even = h }
    go false q =
        let z : min 1 (7 - s.gr) ≡ 1 = left_one s.gr 7 (omega (arith, ltb-false 6 s.gr q)) in
        record { parameter = rw z; next = rw (z, add-zero s.fr, add-zero s.starg); even = h }
slot-agrees s ZClass.Reference n h = go (ltb 6 s.gr) refl
  where
    go : (b : Bool) → ltb 6 s.gr ≡ b → Same (pick b (in_other s (copy_at true s.copies n)) (in_general s (copy_at true s.copies n))) (cursor_of s) ZClass.Reference n
    go true q =
        let z : min 1 (7 - s.gr) ≡ 0 = left-none s.gr 7 (ltb-true 6 s.gr q) in
        record { parameter = rw z; next = rw (z, add-zero s.gr, add-zero s.fr); even = h }
    go false q =
        let z : min 1 (7 - s.gr) ≡ 1 = left_one s.gr 7 (omega (arith, ltb-false 6 s.gr q)) in
        record { parameter = rw z; next = rw (z, add-zero s.fr, add-zero s.starg); even = h }

step-agrees : (s : Scan) (t : ValueType) (n : ℕ) → Even s → Same (slot_of s t n) (cursor_of s) (z_class t n) n
unfolding slot_of
step-agrees s t n h = let c = class-agrees t n in rw (c.0, c.1) (slot-agrees s (z_class t n) n h)

-- ---- all of them

pub slots-agree : (c : Convention) (s : Scan) (ts : List ValueType) → Even s → slots_from c s ts ≡ map parameter_of (spans_of c CallRules.Z (cursor_of s) ts)
unfolding slots_from spans_of span_of next_of
slots-agree c s [] h = refl
slots-agree c s (t ∷ ts) h =
    let a = step-agrees s t (size_of c t) h in
    ap₂ (λ (p : Parameter) (ps : List Parameter). p ∷ ps) a.parameter
    (slots-agree c (slot_of s t (size_of c t)).next ts a.even ∙ ap (λ (k : Cursor). map parameter_of (spans_of c CallRules.Z k ts)) a.next)

pub scan-agrees : (c : Convention) (s : Scan) (ts : List ValueType) → Even s → cursor_of (scanned_to c s ts) ≡ last_of c CallRules.Z (cursor_of s) ts
unfolding scanned_to last_of next_of
scan-agrees c s [] h = refl
scan-agrees c s (t ∷ ts) h =
    let a = step-agrees s t (size_of c t) h in
    scan-agrees c (slot_of s t (size_of c t)).next ts a.even ∙ ap (λ (k : Cursor). last_of c CallRules.Z k ts) a.next

-- ---- the result

pub result-agrees : (c : Convention) (t : ValueType) → z_returned (Some t) ≡ returned_of (result_of CallRules.Z t (size_of c t))
unfolding result_of returned_of hidden_for returning fresh_cursor span_of z_class z_span_of
result-agrees c (ValueType.Integer k) = refl
result-agrees c (ValueType.Float FloatFormat.Single) = refl
result-agrees c (ValueType.Float FloatFormat.Double) = refl
result-agrees c (ValueType.Float FloatFormat.LongDouble) = refl
result-agrees c (ValueType.Struct s) = refl
