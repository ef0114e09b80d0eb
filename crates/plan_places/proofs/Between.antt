-- A span lies between its cursor and the next one: what keeps the spans of a signature apart, proved once for each family.
-- Assumes nothing.
use Prim.Native.Nat.{ℕ, ◌+◌, ◌≤◌, ◌<◌}
use native.Mathlib.Omega.{arith}
use Rattle.base_words.specs.Basics.{round_up}
use Rattle.base_words.proofs.Basics.{words-split}
use Rattle.sig_types.specs.declared.ValueType.{ValueType}
use Rattle.plan_places.specs.declared.Cursor.{Cursor}
use Rattle.plan_places.specs.declared.Span.{Span}
use Rattle.plan_places.specs.declared.Share.{Share}
use Rattle.plan_places.specs.declared.CallRules.{CallRules}
use Rattle.plan_places.specs.declared.ZClass.{ZClass}
use Rattle.plan_places.specs.Power.{words, covered, power_share, power_span, power_next}
use Rattle.plan_places.specs.Helpers.{Shared}
use Rattle.plan_places.specs.ZSeries.{z_class, z_span_of, z_next_of}
use Rattle.plan_places.specs.Step.{span_of, next_of}
use Rattle.plan_places.specs.Spots.{Spot, general, floating, area, copies, Owns}
use Rattle.plan_places.proofs.Shares.{share-shared, fprs-most}

-- each run starts at or after the cursor's counter and ends at or before the next one's; what is in memory lies in the home
pub record Between (c : Cursor) (s : Span) (d : Cursor) : Type 0 where
  pub general-from : c.general ≤ s.general.first
  pub general-to : s.general.first + s.general.count ≤ d.general
  pub floating-from : c.floating ≤ s.floating.first
  pub floating-to : s.floating.first + s.floating.count ≤ d.floating
  pub home-from : c.stack ≤ s.home.start
  pub home-to : s.home.start + s.home.length ≤ d.stack
  pub memory-from : s.home.start ≤ s.memory.start
  pub memory-to : s.memory.start + s.memory.length ≤ s.home.start + s.home.length
  pub copy-from : c.copies ≤ s.copy.start
  pub copy-to : s.copy.start + s.copy.length ≤ d.copies

power-between : (w : ℕ) (c : Cursor) (n : ℕ) (s : Share) → Shared s n (covered c n) → Between c (power_span w c n s) (power_next w c n s)
power-between w c n s h =
    let a = words-split w s.memory n h.memory in
    record {
      general-from = omega arith;
      general-to = omega arith;
      floating-from = omega arith;
      floating-to = omega arith;
      home-from = omega arith;
      home-to = omega arith;
      memory-from = omega arith;
      memory-to = omega arith;
      copy-from = omega arith;
      copy-to = omega arith;
    }

z-between : (c : Cursor) (class : ZClass) (n : ℕ) → Between c (z_span_of c class n) (z_next_of c class n)
unfolding z_span_of z_next_of round_up
z-between c ZClass.Float n = omega arith
z-between c ZClass.Simple n = omega arith
z-between c ZClass.Reference n = omega arith

-- at every cursor, for every type and size
pub step-between : (r : CallRules) (c : Cursor) (t : ValueType) (n : ℕ) → Between c (span_of r c t n) (next_of r c t n)
unfolding span_of next_of power_share
step-between (CallRules.Power f) c t n = power-between f.word c (words f.word n) (power_share f c t n) (share-shared _ _ _ _ _ (fprs-most f.edition t))
step-between CallRules.Z c t n = z-between c (z_class t n) n

-- ---- what a span owns lies from its cursor on and before the next

abbrev pub Before : Cursor → Spot → Type 0
Before c (general n) = n < c.general
Before c (floating n) = n < c.floating
Before c (area n) = n < c.stack
Before c (copies n) = n < c.copies

abbrev pub From : Cursor → Spot → Type 0
From c (general n) = c.general ≤ n
From c (floating n) = c.floating ≤ n
From c (area n) = c.stack ≤ n
From c (copies n) = c.copies ≤ n

pub before-from : (c : Cursor) (x : Spot) → Before c x → From c x → ⊥
before-from c (general n) a b = omega arith
before-from c (floating n) a b = omega arith
before-from c (area n) a b = omega arith
before-from c (copies n) a b = omega arith

-- no counter goes back
pub record Forward (c d : Cursor) : Type 0 where
  pub general : c.general ≤ d.general
  pub floating : c.floating ≤ d.floating
  pub stack : c.stack ≤ d.stack
  pub copies : c.copies ≤ d.copies

pub forward-same : (c : Cursor) → Forward c c
forward-same c = record { general = omega arith; floating = omega arith; stack = omega arith; copies = omega arith }

pub forward-then : {a b c : Cursor} → Forward a b → Forward b c → Forward a c
forward-then x y = record { general = omega (arith, x, y); floating = omega (arith, x, y); stack = omega (arith, x, y); copies = omega (arith, x, y) }

pub before-later : {c d : Cursor} → Forward c d → (x : Spot) → Before c x → Before d x
before-later f (general n) a = omega (arith, f)
before-later f (floating n) a = omega (arith, f)
before-later f (area n) a = omega (arith, f)
before-later f (copies n) a = omega (arith, f)

pub from-earlier : {c d : Cursor} → Forward c d → (x : Spot) → From d x → From c x
from-earlier f (general n) a = omega (arith, f)
from-earlier f (floating n) a = omega (arith, f)
from-earlier f (area n) a = omega (arith, f)
from-earlier f (copies n) a = omega (arith, f)

module _ (r : CallRules) (c : Cursor) (t : ValueType) (n : ℕ) where
  pub step-forward : Forward c (next_of r c t n)
  step-forward = let b = step-between r c t n in record { general = omega arith; floating = omega arith; stack = omega arith; copies = omega arith }

  pub owns-from : (x : Spot) → Owns (span_of r c t n) x → From c x
  owns-from (general k) o = let b = step-between r c t n in omega arith
  owns-from (floating k) o = let b = step-between r c t n in omega arith
  owns-from (area k) o = let b = step-between r c t n in omega arith
  owns-from (copies k) o = let b = step-between r c t n in omega arith

  pub owns-before : (x : Spot) → Owns (span_of r c t n) x → Before (next_of r c t n) x
  owns-before (general k) o = let b = step-between r c t n in omega arith
  owns-before (floating k) o = let b = step-between r c t n in omega arith
  owns-before (area k) o = let b = step-between r c t n in omega arith
  owns-before (copies k) o = let b = step-between r c t n in omega arith
