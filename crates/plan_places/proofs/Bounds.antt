-- The bounds of a cursor: the registers that a convention names, and how far one argument moves the bytes. Assumes nothing.
use mathlib.Core.Path.{◌≡◌, refl}
use mathlib.Core.Bool.{Bool, true, false}
use Prim.Native.Nat.{ℕ, zero, suc, ◌+◌, ◌-◌, ◌*◌, ◌/◌, ◌%◌, ◌≤◌, ◌<◌}
use native.Mathlib.Omega.{arith}
use native.Mathlib.Nat.{div-mul-le_self, mul_comm}
use Rattle.base_words.specs.Basics.{round_up}
use Rattle.base_conventions.specs.declared.Convention.{Convention}
use Rattle.base_conventions.specs.Numbers.{word_bytes, least_area}
use Rattle.sig_types.specs.declared.ValueType.{ValueType}
use Rattle.plan_places.specs.declared.Cursor.{Cursor}
use Rattle.plan_places.specs.declared.CallRules.{CallRules}
use Rattle.plan_places.specs.declared.ZClass.{ZClass}
use Rattle.plan_places.specs.Values.{pointer}
use Rattle.plan_places.specs.Power.{words, fprs, covered, power_share, unclear}
use Rattle.plan_places.specs.ZSeries.{z_class, z_next_of}
use Rattle.plan_places.specs.Step.{rules_of, word_of, next_of, unclear_for, fresh_cursor, start_of, area_of, returning}
use Rattle.plan_places.specs.Helpers.{LawfulCalls, Roomy, unclear_after}
use Rattle.plan_places.proofs.Shares.{share-room}

-- ---- the conventions

pub rules-lawful : (c : Convention) → LawfulCalls (rules_of c)
rules-lawful Convention.Ppc64 = omega arith
rules-lawful Convention.Z = tt
rules-lawful Convention.Aix = omega arith
rules-lawful Convention.Ppc64b = omega arith

-- a pointer is a word
pub rules-word : (c : Convention) → word_of (rules_of c) ≡ word_bytes c
rules-word Convention.Ppc64 = refl
rules-word Convention.Z = refl
rules-word Convention.Aix = refl
rules-word Convention.Ppc64b = refl

pub returning-lawful : (r : CallRules) → LawfulCalls r → LawfulCalls (returning r)
unfolding returning
returning-lawful (CallRules.Power f) h = h
returning-lawful CallRules.Z h = tt

pub word_some : (r : CallRules) → LawfulCalls r → 0 < word_of r
word_some (CallRules.Power f) h = omega arith
word_some CallRules.Z h = omega arith

pub word-most : (r : CallRules) → LawfulCalls r → word_of r ≤ 8
word-most (CallRules.Power f) h = omega arith
word-most CallRules.Z h = omega arith

-- ---- the registers: r3 to r10 and f1 to f13; on Z r2 to r6, and f0, f2, f4 and f6

-- the next register is one of these or the first after them
abbrev pub Named : CallRules → Cursor → Type 0
Named (CallRules.Power f) c = (3 ≤ c.general) × (c.general ≤ 11) × (1 ≤ c.floating) × (c.floating ≤ 14)
Named CallRules.Z c = (2 ≤ c.general) × (c.general ≤ 7) × (c.floating ≤ 8) × (c.floating % 2 ≡ 0)

pub named-fresh : (r : CallRules) → Named r (fresh_cursor r)
unfolding fresh_cursor
named-fresh (CallRules.Power f) = omega arith
named-fresh CallRules.Z = omega arith

z-named : (c : Cursor) (class : ZClass) (n : ℕ) → Named CallRules.Z c → Named CallRules.Z (z_next_of c class n)
unfolding z_next_of
z-named c ZClass.Float n h = omega arith
z-named c ZClass.Simple n h = omega arith
z-named c ZClass.Reference n h = omega arith

pub named-next : (r : CallRules) (c : Cursor) (t : ValueType) (n : ℕ) → Named r c → Named r (next_of r c t n)
unfolding next_of power_share
named-next (CallRules.Power f) c t n h =
    let room : (power_share f c t n).floating ≤ 14 - c.floating = share-room f.ellipsis (fprs f.edition t) (14 - c.floating) (words f.word n) (covered c (words f.word n)) in
    omega arith
named-next CallRules.Z c t n h = z-named c (z_class t n) n h

pub named_start : (r : CallRules) (hidden : Bool) → Named r (start_of r hidden)
unfolding start_of
named_start r true = named-next r (fresh_cursor r) pointer (word_of r) (named-fresh r)
named_start r false = named-fresh r

-- ---- the bytes

word_bound : (w n : ℕ) → 4 ≤ w → w ≤ 8 → n ≤ 256 → w * words w n ≤ 264
unfolding words
word_bound w n h k s = omega (arith, div-mul-le_self (n + (w - 1)) w, mul_comm ((n + (w - 1)) / w) w)

-- an argument of at most 256 bytes moves the area and the copies by at most 264
pub record Near (c d : Cursor) : Type 0 where
  pub stack : d.stack ≤ c.stack + 264
  pub copies : d.copies ≤ c.copies + 264

z-near : (c : Cursor) (class : ZClass) (n : ℕ) → n ≤ 256 → Near c (z_next_of c class n)
unfolding z_next_of round_up
z-near c ZClass.Float n h = omega arith
z-near c ZClass.Simple n h = omega arith
z-near c ZClass.Reference n h = omega arith

pub near_next : (r : CallRules) (c : Cursor) (t : ValueType) (n : ℕ) → LawfulCalls r → n ≤ 256 → Near c (next_of r c t n)
unfolding next_of
near_next (CallRules.Power f) c t n l h = let b = word_bound f.word n l.0 l.1 h in record { stack = omega arith; copies = omega arith }
near_next CallRules.Z c t n l h = z-near c (z_class t n) n h

-- the bytes of the first cursor: none
fresh-bytes : (r : CallRules) → ((fresh_cursor r).stack ≡ 0) × ((fresh_cursor r).copies ≡ 0)
unfolding fresh_cursor
fresh-bytes (CallRules.Power f) = (refl, refl)
fresh-bytes CallRules.Z = (refl, refl)

pub start-bytes : (r : CallRules) (hidden : Bool) → LawfulCalls r → ((start_of r hidden).stack ≤ 264) × ((start_of r hidden).copies ≤ 264)
unfolding start_of
start-bytes r true l = let b = near_next r (fresh_cursor r) pointer (word_of r) l (omega (arith, word-most r l)) in omega (arith, fresh-bytes r)
start-bytes r false l = omega (arith, fresh-bytes r)

pub named-roomy : (r : CallRules) (c : Cursor) → Named r c → c.stack ≤ 60000 → c.copies ≤ 60000 → Roomy c
named-roomy (CallRules.Power f) c h s k = omega arith
named-roomy CallRules.Z c h s k = omega arith

pub fresh-roomy : (r : CallRules) → Roomy (fresh_cursor r)
fresh-roomy r = named-roomy r (fresh_cursor r) (named-fresh r) (omega (arith, fresh-bytes r)) (omega (arith, fresh-bytes r))

-- "The area is 8 times the larger of 8 and the final w": never less than the least area
pub least-area : (c : Convention) (e : Cursor) → least_area c ≤ area_of c e
unfolding area_of
least-area c e = omega arith

-- all bytes before the last cursor lie in the area
pub area-holds : (c : Convention) (e : Cursor) → e.stack ≤ area_of c e
unfolding area_of
area-holds c e = omega arith

-- ---- the first unclear argument

-- 29 looks at the FPRs alone: at neither the offset nor the copies
pub unclear-floating : (r : CallRules) (k d : Cursor) (t : ValueType) → k.floating ≡ d.floating → unclear_for r k t ≡ unclear_for r d t
unfolding unclear_for unclear
unclear-floating (CallRules.Power f) k d t e = rw e
unclear-floating CallRules.Z k d t e = refl

pub unclear-kept : (u : ℕ) (b : Bool) (i : ℕ) → 0 < u → u ≡ unclear_after u b i
unfolding unclear_after
unclear-kept zero b i h = absurd (omega arith)
unclear-kept (suc u) b i h = refl

pub unclear-found : (u : ℕ) (b : Bool) (i : ℕ) → u ≡ 0 → b ≡ true → i + 1 ≡ unclear_after u b i
unfolding unclear_after
unclear-found u b i e q = rw (e, q) (omega arith)

pub unclear-none : (u : ℕ) (b : Bool) (i : ℕ) → u ≡ 0 → b ≡ false → 0 ≡ unclear_after u b i
unfolding unclear_after
unclear-none u b i e q = rw (e, q)
