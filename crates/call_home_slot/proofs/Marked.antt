-- What an ellipsis leaves alone: whether there are homes, what 14 asks, and what registers put in a home. Assumes nothing.
use mathlib.Core.Path.{◌≡◌, refl, ap}
use mathlib.Core.Bool.{Bool}
use mathlib.Core.List.{List}
use Prim.Native.Nat.{ℕ}
use lib.Dec.{ltb}
use Rattle.base_words.specs.Basics.{pick}
use Rattle.base_words.specs.Numbers.{value_of}
use Rattle.sig_types.specs.declared.Equivalent.{Equivalent}
use Rattle.sig_types.specs.declared.ValueType.{ValueType}
use Rattle.sig_types.specs.Sizes.{equivalent_of}
use Rattle.plan_places.specs.declared.CallRules.{CallRules}
use Rattle.plan_places.specs.declared.PowerRules.{PowerRules}
use Rattle.plan_places.specs.declared.Span.{Span}
use Rattle.plan_places.specs.Step.{with_ellipsis}
use Rattle.call_slots.specs.Forms.{starts_at_head, home_bytes, float_value_as, float_value}
use Rattle.call_slots.specs.Placements.{Placement}
use Rattle.call_slots.specs.Refusals.{float_answer}
use Rattle.call_slots.proofs.Marked.{held-marked}
use Rattle.call_home_slot.specs.Homes.{homeless, fprs_of, register_answer, homed_bytes}
use Rattle.call_home_slot.specs.Helpers.{Homed, Registered}
use Rattle.call_slots.specs.Answer.{CallAnswer, call_done}

pub homeless-marked : (v : Bool) (r : CallRules) → homeless (with_ellipsis v r) ≡ homeless r
unfolding with_ellipsis
homeless-marked v (CallRules.Power f) = refl
homeless-marked v CallRules.Z = refl

pub answer-marked : (v : Bool) (r : CallRules) (t : ValueType) (s : Span) (image : List ℕ) → register_answer (with_ellipsis v r) t s image ≡ register_answer r t s image
unfolding with_ellipsis register_answer
answer-marked v (CallRules.Power f) t s image = ap (λ (a : CallAnswer). pick (ltb 0 s.floating.count) a call_done) (by (equivalent_of t) (value_of (fprs_of s image)))
  where
    by : (e : Equivalent) (x : ℕ) → float_answer (CallRules.Power (record { word = f.word; edition = f.edition; ellipsis = v })) e x ≡ float_answer (CallRules.Power f) e x
    by Equivalent.Single x = refl
    by Equivalent.Double x = refl
    by Equivalent.Nothing x = refl
answer-marked v CallRules.Z t s image = refl

value-marked : (v : Bool) (f : PowerRules) (e : Equivalent) (bs : List ℕ)
    → float_value_as (CallRules.Power (record { word = f.word; edition = f.edition; ellipsis = v })) e bs ≡ float_value_as (CallRules.Power f) e bs
value-marked v f Equivalent.Single bs = refl
value-marked v f Equivalent.Double bs = refl
value-marked v f Equivalent.Nothing bs = refl

pub bytes-marked : (v : Bool) (r : CallRules) (p : Placement) (image : List ℕ) → homed_bytes (with_ellipsis v r) p image ≡ homed_bytes r p image
unfolding with_ellipsis homed_bytes home_bytes starts_at_head float_value
bytes-marked v (CallRules.Power f) p image = rw (value-marked v f (equivalent_of p.ty) (fprs_of p.span image))
bytes-marked v CallRules.Z p image = refl

pub homed-marked : (v : Bool) (r : CallRules) (a : ℕ) (p : Placement) → Homed (with_ellipsis v r) a p → Homed r a p
unfolding with_ellipsis starts_at_head
homed-marked v (CallRules.Power f) a p h = record { homes = refl; direct = h.direct; room = h.room; within = h.within; float = h.float; follows = h.follows }
homed-marked v CallRules.Z a p h = h

pub registered-marked : (v : Bool) (r : CallRules) (a i : ℕ) (p : Placement) → Registered (with_ellipsis v r) a i p → Registered r a i p
registered-marked v r a i p h = record {
  registers = record { held = held-marked v r p h.registers.held; general = h.registers.general; floating = h.registers.floating; image = h.registers.image };
  homed = homed-marked v r a p h.homed;
}
