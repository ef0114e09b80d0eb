-- The cursor after a hidden address: a general register more and, on PowerPC, a word. Assumes nothing.
use Prim.Native.Nat.{ℕ, ◌+◌, ◌≤◌}
use mathlib.Core.Path.{◌≡◌, refl, ap}
use mathlib.Core.Bool.{true}
use native.Mathlib.Omega.{arith}
use Rattle.plan_places.specs.declared.PowerRules.{PowerRules}
use Rattle.plan_places.specs.declared.CallRules.{CallRules}
use Rattle.plan_places.specs.declared.Cursor.{Cursor}
use Rattle.plan_places.specs.Values.{cursor}
use Rattle.plan_places.specs.Power.{fprs, share_of, power_share}
use Rattle.plan_places.specs.ZSeries.{z_class, z_next_of}
use Rattle.plan_places.specs.Step.{next_of, fresh_cursor, start_of}
use Rattle.plan_places.proofs.Shares.{words-one}

pub power-past : (f : PowerRules) (k : Cursor) → 4 ≤ f.word → k ≡ fresh_cursor (CallRules.Power f) → cursor (k.general + 1) k.floating f.word 0 ≡ start_of (CallRules.Power f) true
unfolding start_of next_of fresh_cursor power_share fprs share_of
power-past f k l e = rw (e, words-one f.word f.word (omega arith) (omega arith)) (ap (λ (x : ℕ). cursor 4 1 x 0) (omega arith))

pub z-past : (k : Cursor) → k ≡ fresh_cursor CallRules.Z → cursor (k.general + 1) k.floating 0 0 ≡ start_of CallRules.Z true
unfolding start_of next_of fresh_cursor z_class z_next_of
z-past k e = rw e refl
