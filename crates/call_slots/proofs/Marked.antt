-- What an ellipsis leaves alone: the forms of values. Assumes nothing.
use mathlib.Core.Path.{◌≡◌, refl}
use mathlib.Core.Bool.{Bool}
use Prim.Native.Nat.{ℕ}
use Rattle.sig_types.specs.declared.ValueType.{ValueType}
use Rattle.plan_places.specs.declared.CallRules.{CallRules}
use Rattle.plan_places.specs.Step.{with_ellipsis}
use Rattle.call_slots.specs.Forms.{starts_at_head, own_start}
use Rattle.call_slots.specs.Placements.{Placement}
use Rattle.call_slots.specs.Helpers.{Held}

pub own-marked : (v : Bool) (r : CallRules) (t : ValueType) (n : ℕ) → own_start (with_ellipsis v r) t n ≡ own_start r t n
unfolding with_ellipsis own_start starts_at_head
own-marked v (CallRules.Power f) t n = refl
own-marked v CallRules.Z t n = refl

-- what has room by the rules of a call has it by those without an ellipsis too
pub held-marked : (v : Bool) (r : CallRules) (p : Placement) → Held (with_ellipsis v r) p → Held r p
unfolding with_ellipsis starts_at_head
held-marked v (CallRules.Power f) p h = record {
  word = h.word;
  direct = h.direct;
  float = h.float;
  words = h.words;
  also = h.also;
  stored = h.stored;
  room = h.room;
  whole = h.whole;
  small = h.small;
  address = h.address;
  copied = h.copied;
}
held-marked v CallRules.Z p h = h
