-- A value's own bytes back out of its form. Assumes nothing.
use Rattle.std.proofs.Common.{Some}
use mathlib.Core.Path.{◌≡◌, refl, ap, ◌∙◌}
use mathlib.Core.Bool.{Bool, true, false}
use mathlib.Core.List.{List, ◌++◌}
use Prim.Native.Nat.{ℕ, ◌+◌, ◌-◌, ◌*◌, ◌/◌, ◌^◌, ◌≤◌}
use native.Mathlib.Omega.{arith}
use lib.ListN.{length, take, replicate, length-append, length-replicate}
use lib.Seq.{take_all, take-append-le, take_at}
use Rattle.base_words.specs.Basics.{pick}
use Rattle.base_words.specs.Splice.{part}
use Rattle.base_words.specs.Numbers.{Bytes, bytes_of, value_of, zero_extended, sign_extended}
use Rattle.base_words.proofs.Numbers.{length-bytes_of, value-back, bytes_of-value, bytes_of-append, bytes_of-zero_extended, bytes_of-sign_extended, bytes_of-back, value-fits, bytes_of-last}
use Rattle.base_ieee.specs.Widening.{widen}
use Rattle.base_ieee.specs.Narrowing.{narrow}
use Rattle.base_ieee.proofs.Laws.{widen-below, narrow-widen}
use Rattle.sig_types.specs.declared.Equivalent.{Equivalent}
use Rattle.sig_types.specs.declared.ValueType.{ValueType}
use Rattle.plan_places.specs.declared.CallRules.{CallRules}
use Rattle.call_slots.specs.Forms.{room_of, is_signed, starts_at_head, extended, home_bytes, own_start, float_form, narrowed_bytes, float_value_as}
use Rattle.call_slots.specs.Helpers.{FloatSized}
use Rattle.call_slots.specs.Refusals.{narrowed_answer, float_answer}
use Rattle.call_slots.specs.Answer.{call_done}

-- ---- in FPRs

pub float_back : (r : CallRules) (e : Equivalent) (m : ℕ) (v : List ℕ) → FloatSized e m (length v) → Bytes v
    → (float_answer r e (value_of (float_form r e v)) ≡ call_done) × (float_value_as r e (float_form r e v) ≡ v)
float_back (CallRules.Power f) Equivalent.Single m v s h =
    let x : ℕ = value_of v in
    let bits : value_of (bytes_of 8 (widen x)) ≡ widen x = value-back 8 (widen x) (widen-below x) in
    let single : narrow (value_of (bytes_of 8 (widen x))) ≡ Some x = ap narrow bits ∙ narrow-widen x (value-fits 4 v s.1 h) in
    (ap narrowed_answer single, ap narrowed_bytes single ∙ bytes_of-back 4 v s.1 h)
float_back CallRules.Z Equivalent.Single m v s h =
    let x : ℕ = value_of v in
    let split : bytes_of 8 (x * 2 ^ 32) ≡ bytes_of 4 (x * 2 ^ 32 / 2 ^ 32) ++ bytes_of 4 (x * 2 ^ 32) = bytes_of-append 4 4 (x * 2 ^ 32) in
    let high : x * 2 ^ 32 / 2 ^ 32 ≡ x = omega arith in (
      refl,
      ap (take 4) split
          ∙ take_at (bytes_of 4 (x * 2 ^ 32 / 2 ^ 32)) (bytes_of 4 (x * 2 ^ 32)) 4 (length-bytes_of 4 (x * 2 ^ 32 / 2 ^ 32))
          ∙ ap (bytes_of 4) high
          ∙ bytes_of-back 4 v s.1 h,
    )
float_back (CallRules.Power f) Equivalent.Double m v s h = (refl, refl)
float_back (CallRules.Power f) Equivalent.Nothing m v s h = (refl, refl)
float_back CallRules.Z Equivalent.Double m v s h = (refl, refl)
float_back CallRules.Z Equivalent.Nothing m v s h = (refl, refl)

-- ---- in general registers and memory

extended-back : (t : ValueType) (n x : ℕ) → n ≤ 8 → bytes_of n (extended t n x) ≡ bytes_of n x
unfolding extended
extended-back t n x h = go (is_signed t)
  where
    go : (b : Bool) → bytes_of n (pick b (sign_extended n x) (zero_extended n x)) ≡ bytes_of n x
    go true = bytes_of-sign_extended n x h
    go false = bytes_of-zero_extended n x

-- the last n of m bytes
end_back : (m n y : ℕ) → n ≤ m → part (m - n) n (bytes_of m y) ≡ bytes_of n y
end_back m n y h =
    let e : m ≡ m - n + n = omega arith in
    ap (λ (i : ℕ). part (m - n) n (bytes_of i y)) e ∙ bytes_of-last (m - n) n y

pub own_back : (r : CallRules) (t : ValueType) (v : List ℕ) → Bytes v
    → (starts_at_head r t ≡ false → (length v ≤ 8) × (length v ≤ room_of r (length v)))
    → part (own_start r t (length v)) (length v) (home_bytes r t (length v) v) ≡ v
unfolding own_start home_bytes
own_back r t v h small = go (starts_at_head r t) refl
  where
    go : (b : Bool) → starts_at_head r t ≡ b
        → part (pick b 0 (room_of r (length v) - length v)) (length v)
        (pick b (v ++ replicate (room_of r (length v) - length v) 0) (bytes_of (room_of r (length v)) (extended t (length v) (value_of v))))
        ≡ v
    go true q =
        take-append-le (length v) v (replicate (room_of r (length v) - length v) 0) (omega arith) ∙ take_all (length v) v (omega arith)
    go false q =
        let s = small q in
        end_back (room_of r (length v)) (length v) (extended t (length v) (value_of v)) s.1
        ∙ extended-back t (length v) (value_of v) s.0 ∙ bytes_of-value v h

pub length-home : (r : CallRules) (t : ValueType) (v : List ℕ) → (starts_at_head r t ≡ true → length v ≤ room_of r (length v))
    → length (home_bytes r t (length v) v) ≡ room_of r (length v)
unfolding home_bytes
length-home r t v h = go (starts_at_head r t) refl
  where
    go : (b : Bool) → starts_at_head r t ≡ b
        → length (pick b (v ++ replicate (room_of r (length v) - length v) 0) (bytes_of (room_of r (length v)) (extended t (length v) (value_of v))))
        ≡ room_of r (length v)
    go true q =
        let k = h q in
        omega (arith, length-append v (replicate (room_of r (length v) - length v) 0), length-replicate {A = ℕ} (room_of r (length v) - length v) 0)
    go false q = length-bytes_of (room_of r (length v)) (extended t (length v) (value_of v))
