-- The counters: what the functions compute from offset 0 is what the definitions say. Assumes nothing.
use mathlib.Core.Path.{◌≡◌, refl, ap}
use mathlib.Core.Bool.{Bool}
use Prim.Native.Nat.{ℕ, ◌+◌, ◌-◌, ◌*◌, ◌/◌, ◌^◌, ◌≤◌, ◌<◌}
use native.Mathlib.Omega.{arith}
use native.Mathlib.Nat.{mul-add, mul-div_cancel_left, zero-add}
use Rattle.sig_types.specs.declared.ValueType.{ValueType}
use Rattle.plan_places.specs.declared.Cursor.{Cursor}
use Rattle.plan_places.specs.declared.CallRules.{CallRules}
use Rattle.plan_places.specs.declared.ZClass.{ZClass}
use Rattle.plan_places.specs.Power.{words, power_share}
use Rattle.plan_places.specs.ZSeries.{z_class, z_next_of}
use Rattle.plan_places.specs.Step.{next_of, start_of}
use Rattle.plan_places.specs.Helpers.{LawfulCalls, Roomy}
use Rattle.plan_places.proofs.Bounds.{Named, named-next, named_start, named-roomy, near_next, start-bytes}
use Rattle.call_walker.specs.declared.Counters.{Counters}
use Rattle.call_walker.specs.Walker.{counters, cursor_at, counters_of}
use Rattle.call_walker.specs.Helpers.{local}
use Rattle.call_walker.proofs.Reached.{Possible}
use Rattle.call_walking.specs.Helpers.{Offset, Countable, counters_after}

-- ---- the cursor

pub possible-offset : (r : CallRules) (hidden : Bool) (k : Counters) → LawfulCalls r → Possible r hidden k → Offset r k
possible-offset (CallRules.Power f) hidden k l p = l.1
possible-offset CallRules.Z hidden k l p = p.4

pub local-named : (r : CallRules) (hidden : Bool) (k : Counters) → Possible r hidden k → Named r (local (cursor_at r k))
unfolding cursor_at
local-named (CallRules.Power f) hidden k p = (omega arith, omega arith, omega arith, omega (arith, p.0))
local-named CallRules.Z hidden k p = (omega (arith, p.0), p.1, p.2, p.3)

pub local-roomy : (r : CallRules) (hidden : Bool) (k : Counters) → Possible r hidden k → Roomy (local (cursor_at r k))
local-roomy r hidden k p = named-roomy r (local (cursor_at r k)) (local-named r hidden k p) (omega arith) (omega arith)

-- ---- the counters

countable : (r : CallRules) (d : Cursor) → LawfulCalls r → Named r d → d.stack ≤ 2 ^ 32 → Countable r d
countable (CallRules.Power f) d l h s = (omega arith, h.2, s)
countable CallRules.Z d l h s = s

pub start-countable : (r : CallRules) (hidden : Bool) → LawfulCalls r → Countable r (start_of r hidden)
start-countable r hidden l = countable r (start_of r hidden) l (named_start r hidden) (omega (arith, start-bytes r hidden l))

-- a start is where no counter was before
pub start-after : (r : CallRules) (d : Cursor) → counters_after r (counters 0 0 160) d ≡ counters_of r d
unfolding counters_after counters_of
start-after (CallRules.Power f) d = rw (zero-add (d.stack / f.word))
start-after CallRules.Z d = refl

pub next-countable : (r : CallRules) (hidden : Bool) (k : Counters) (t : ValueType) (n : ℕ) → LawfulCalls r → Possible r hidden k → n ≤ 256
    → Countable r (next_of r (local (cursor_at r k)) t n)
next-countable r hidden k t n l p h =
    let d : Cursor = local (cursor_at r k) in
    countable r (next_of r d t n) l (named-next r d t n (local-named r hidden k p)) (omega (arith, (near_next r d t n l h).stack))

z-after : (k : Counters) (class : ZClass) (n : ℕ) → 160 ≤ k.stack
    → counters_after CallRules.Z k (z_next_of (local (cursor_at CallRules.Z k)) class n) ≡ counters_of CallRules.Z (z_next_of (cursor_at CallRules.Z k) class n)
unfolding counters_after counters_of cursor_at z_next_of
z-after k ZClass.Float n h = ap (counters _ _) (omega arith)
z-after k ZClass.Simple n h = ap (counters _ _) (omega arith)
z-after k ZClass.Reference n h = ap (counters _ _) (omega arith)

pub next-after : (r : CallRules) (hidden : Bool) (k : Counters) (t : ValueType) (n : ℕ) → LawfulCalls r → Possible r hidden k
    → counters_after r k (next_of r (local (cursor_at r k)) t n) ≡ counters_of r (next_of r (cursor_at r k) t n)
unfolding counters_after counters_of cursor_at next_of power_share
next-after (CallRules.Power f) hidden k t n l p =
    let some : 0 < f.word = omega arith in
    let m : ℕ = words f.word n in
    rw (zero-add (f.word * m), ← mul-add f.word k.general m, mul-div_cancel_left m some, mul-div_cancel_left (k.general + m) some)
next-after CallRules.Z hidden k t n l p = z-after k (z_class t n) n p.4
