-- An argument's registers as memory holds them. Assumes nothing.
use Rattle.std.proofs.Common.{Option, Some, None}
use mathlib.Core.Path.{◌≡◌, refl, sym, ap, ◌∙◌}
use mathlib.Core.Bool.{false}
use mathlib.Core.List.{List, ◌++◌}
use Prim.Native.Nat.{ℕ, ◌+◌, ◌-◌, ◌*◌, ◌%◌, ◌^◌, ◌≤◌, ◌<◌}
use native.Mathlib.Omega.{arith}
use native.Mathlib.Nat.{mod-eq_of_lt}
use borrow.Author.Tests.{lt-ltb, le-ltb}
use lib.ListN.{replicate}
use Rattle.base_words.specs.Basics.{pick}
use Rattle.base_words.specs.Splice.{part}
use Rattle.base_words.specs.Numbers.{bytes_of, value_of, zero_extended}
use Rattle.base_words.proofs.Numbers.{value-bytes_of}
use Rattle.base_ieee.specs.Narrowing.{narrow}
use Rattle.base_ieee.proofs.Laws.{widen-narrow}
use Rattle.sig_types.specs.declared.Equivalent.{Equivalent}
use Rattle.sig_types.specs.declared.ValueType.{ValueType}
use Rattle.sig_types.specs.Sizes.{equivalent_of}
use Rattle.plan_places.specs.declared.CallRules.{CallRules}
use Rattle.plan_places.specs.declared.PowerRules.{PowerRules}
use Rattle.plan_places.specs.Step.{word_of}
use Rattle.call_registers.specs.Registers.{gather}
use Rattle.call_slots.specs.Forms.{room_of, starts_at_head, extended, home_bytes, narrowed_bytes, float_value_as, float_value}
use Rattle.call_slots.specs.Placements.{Placement}
use Rattle.call_slots.specs.Helpers.{FloatSized}
use Rattle.call_home_slot.specs.Homes.{homeless, fprs_of, homed_bytes}
use Rattle.call_home_slot.specs.Helpers.{narrowed_word, home_word, float_home, HomeSized, fills_words, Registered}

-- ---- the memory form
narrowed-form : (d : ℕ) (q : Option ℕ) → narrow d ≡ q → zero_extended 4 (value_of (narrowed_bytes q)) ≡ narrowed_word q
unfolding zero_extended value_of
narrowed-form d (Some x) e =
    let low = (widen-narrow d x e).0 in
    let v : value_of (bytes_of 4 x) ≡ x % 2 ^ 32 = value-bytes_of 4 x in
    omega (arith, low, v)
narrowed-form d None e = refl

-- of a single and of a double
single-form : (f : PowerRules) (n : ℕ) (bs : List ℕ) → n ≡ 4 → zero_extended n (value_of (float_value_as (CallRules.Power f) Equivalent.Single bs)) ≡ home_word Equivalent.Single (value_of bs)
single-form f n bs s = rw s (narrowed-form (value_of bs) (narrow (value_of bs)) refl)

double-form : (n : ℕ) (bs : List ℕ) → n ≡ 8 → value_of bs < 2 ^ 64 → zero_extended n (value_of bs) ≡ value_of bs
unfolding zero_extended
double-form n bs s low = rw s (mod-eq_of_lt low)

-- of a float in m FPRs
form-as : (f : PowerRules) (q : Equivalent) (m n : ℕ) (bs : List ℕ) → FloatSized q m n → (m ≡ 1 → value_of bs < 2 ^ 64)
    → pick (fills_words q) (float_value_as (CallRules.Power f) q bs ++ replicate (room_of (CallRules.Power f) n - n) 0)
    (bytes_of (room_of (CallRules.Power f) n) (zero_extended n (value_of (float_value_as (CallRules.Power f) q bs))))
    ≡ float_home (room_of (CallRules.Power f) n) (8 * m) q bs
form-as f Equivalent.Single m n bs s low = ap (bytes_of (room_of (CallRules.Power f) n)) (single-form f n bs s.1)
form-as f Equivalent.Double m n bs s low = ap (bytes_of (room_of (CallRules.Power f) n)) (double-form n bs s.1 (low s.0))
form-as f Equivalent.Nothing m n bs s low = let e : n ≡ 8 * m = omega (arith, s.0, s.1) in ap (λ (k : ℕ). bs ++ replicate (room_of (CallRules.Power f) n - k) 0) e

memory-form : (f : PowerRules) (t : ValueType) (m n : ℕ) (bs : List ℕ) → FloatSized (equivalent_of t) m n → starts_at_head (CallRules.Power f) t ≡ fills_words (equivalent_of t)
    → (m ≡ 1 → value_of bs < 2 ^ 64)
    → home_bytes (CallRules.Power f) t n (float_value (CallRules.Power f) t bs) ≡ float_home (room_of (CallRules.Power f) n) (8 * m) (equivalent_of t) bs
unfolding home_bytes float_value extended
memory-form f (ValueType.Integer k) m n bs s e low = rw e (form-as f Equivalent.Nothing m n bs s low)
memory-form f (ValueType.Float x) m n bs s e low = rw e (form-as f (equivalent_of (ValueType.Float x)) m n bs s low)
memory-form f (ValueType.Struct x) m n bs s e low = rw e (form-as f x.equivalent m n bs s low)

module _ (r : CallRules) (a i : ℕ) (p : Placement) (image : List ℕ) (h : Registered r a i p) where
  -- a float's home holds its memory form
  pub homed-float : 0 < p.span.floating.count → (p.span.floating.count ≡ 1 → value_of (fprs_of p.span image) < 2 ^ 64)
      → homed_bytes r p image ≡ float_home p.span.home.length (8 * p.span.floating.count) (equivalent_of p.ty) (fprs_of p.span image)
  unfolding homed_bytes
  homed-float some low =
      simp (lt-ltb 0 p.span.floating.count some)
      (go r h.homed.homes (h.homed.float some) ∙ ap (λ (n : ℕ). float_home n (8 * p.span.floating.count) (equivalent_of p.ty) (fprs_of p.span image)) (sym h.homed.room))
    where
      go : (r : CallRules) → homeless r ≡ false → starts_at_head r p.ty ≡ fills_words (equivalent_of p.ty)
          → home_bytes r p.ty p.size (float_value r p.ty (fprs_of p.span image)) ≡ float_home (room_of r p.size) (8 * p.span.floating.count) (equivalent_of p.ty) (fprs_of p.span image)
      go (CallRules.Power f) e q = memory-form f p.ty p.span.floating.count p.size (fprs_of p.span image) (h.registers.held.float some) q low
      go CallRules.Z e q = let z : ◌≡◌ {A = ℕ} 0 1 = cc in absurd (omega arith)

  -- which it has room for
  pub float-sized : 0 < p.span.floating.count → HomeSized (equivalent_of p.ty) (8 * p.span.floating.count) p.span.home.length
  float-sized some = go (equivalent_of p.ty) (h.registers.held.float some)
    where
      go : (e : Equivalent) → FloatSized e p.span.floating.count p.size → HomeSized e (8 * p.span.floating.count) p.span.home.length
      go Equivalent.Single s = omega (arith, s.0)
      go Equivalent.Double s = omega (arith, s.0)
      go Equivalent.Nothing s = omega (arith, s.0, s.1, h.homed.room, h.registers.held.room h.homed.direct)

  pub float-room : p.span.home.start + p.span.home.length ≤ a
  float-room = omega (arith, h.homed.within, h.homed.room)

  pub general-room : p.span.floating.count ≤ 0 → p.span.home.start + word_of r * p.span.general.count ≤ a
  general-room none =
      let no : p.span.floating.count ≡ 0 = omega arith in
      omega (arith, h.homed.within, h.registers.held.words no)

  pub homed-general : p.span.floating.count ≤ 0
      → homed_bytes r p image ≡ gather (word_of r) p.span.general.count (part (8 * p.span.general.first) (8 * p.span.general.count) image)
  unfolding homed_bytes
  homed-general none = simp (le-ltb 0 p.span.floating.count none)

-- in a longer area
pub registered-at : (r : CallRules) (a b i : ℕ) (p : Placement) → a ≤ b → Registered r a i p → Registered r b i p
registered-at r a b i p l h = record {
  registers = h.registers;
  homed = record { homes = h.homed.homes; direct = h.homed.direct; room = h.homed.room; within = omega (arith, h.homed.within); float = h.homed.float; follows = h.homed.follows };
}
