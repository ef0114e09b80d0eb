-- The spans of the fold, over any rules: what they own lies in order, so that no two of them meet. Assumes nothing.
use mathlib.Core.Path.{◌≡◌, refl}
use mathlib.Core.Bool.{Bool, true, false}
use mathlib.Core.List.{List, [], ◌∷◌}
use Prim.Native.Nat.{ℕ, zero, suc, ◌+◌, ◌-◌, ◌≤◌, ◌<◌}
use native.Mathlib.Omega.{arith}
use borrow.Author.Tests.{ltb-true, ltb-false}
use lib.Dec.{ltb}
use lib.ListN.{length, get_or}
use Rattle.base_words.proofs.Basics.{get_or-filled}
use Rattle.base_conventions.specs.declared.Convention.{Convention}
use Rattle.sig_types.specs.declared.ValueType.{ValueType}
use Rattle.sig_types.specs.Sizes.{size_of}
use Rattle.sig_signatures.specs.Limits.{max_arguments}
use Rattle.plan_places.specs.declared.Cursor.{Cursor}
use Rattle.plan_places.specs.declared.Span.{Span}
use Rattle.plan_places.specs.declared.CallRules.{CallRules}
use Rattle.plan_places.specs.Step.{next_of}
use Rattle.plan_places.specs.Places.{Numbered}
use Rattle.plan_places.specs.Spots.{Spot, general, floating, area, copies, Owns, ArgumentRegister}
use Rattle.plan_places.proofs.Bounds.{Named, named-next}
use Rattle.plan_places.proofs.Between.{Before, From, before-from, before-later, from-earlier, step-between, step-forward, owns-from, owns-before}
use Rattle.plan_places.proofs.Registers.{step-numbered, step-registers}
use Rattle.plan_plans.specs.Plan.{spans_of, last_of, no_span, table_of}
use Rattle.plan_plans.proofs.Fold.{last-forward}

-- ---- the table

pub in_table : (l : List Span) (i : ℕ) → get_or (table_of l) i no_span ≡ get_or l i no_span
unfolding table_of
in_table l i = get_or-filled no_span l (max_arguments - length l) i

-- ---- one span

-- the span of argument i, of nothing past the last one
abbrev pub span_in : Convention → CallRules → Cursor → List ValueType → ℕ → Span
span_in c r k ts i = get_or (spans_of c r k ts) i no_span

-- a span of nothing owns nothing
pub none_owned : (x : Spot) → Owns no_span x → ⊥
none_owned (general n) o = omega arith
none_owned (floating n) o = omega arith
none_owned (area n) o = omega arith
none_owned (copies n) o = omega arith

pub owned-from : (c : Convention) (r : CallRules) (k : Cursor) (ts : List ValueType) (i : ℕ) (x : Spot) → Owns (span_in c r k ts i) x → From k x
unfolding spans_of
owned-from c r k [] i x o = absurd (none_owned x o)
owned-from c r k (t ∷ ts) zero x o = owns-from r k t (size_of c t) x o
owned-from c r k (t ∷ ts) (suc i) x o =
    from-earlier (step-forward r k t (size_of c t)) x (owned-from c r (next_of r k t (size_of c t)) ts i x o)

pub owned-before : (c : Convention) (r : CallRules) (k : Cursor) (ts : List ValueType) (i : ℕ) (x : Spot)
    → Owns (span_in c r k ts i) x → Before (last_of c r k ts) x
unfolding spans_of last_of
owned-before c r k [] i x o = absurd (none_owned x o)
owned-before c r k (t ∷ ts) zero x o =
    before-later (last-forward c r (next_of r k t (size_of c t)) ts) x (owns-before r k t (size_of c t) x o)
owned-before c r k (t ∷ ts) (suc i) x o = owned-before c r (next_of r k t (size_of c t)) ts i x o

pub owned-register : (c : Convention) (r : CallRules) (k : Cursor) (ts : List ValueType) (i : ℕ) (x : Spot)
    → Named r k → Owns (span_in c r k ts i) x → ArgumentRegister r x
unfolding spans_of
owned-register c r k [] i x h o = absurd (none_owned x o)
owned-register c r k (t ∷ ts) zero x h o = step-registers r k t (size_of c t) x h o
owned-register c r k (t ∷ ts) (suc i) x h o =
    owned-register c r (next_of r k t (size_of c t)) ts i x (named-next r k t (size_of c t) h) o

pub span-numbered : (c : Convention) (r : CallRules) (k : Cursor) (ts : List ValueType) (i : ℕ) → Named r k → Numbered (span_in c r k ts i)
unfolding spans_of
span-numbered c r k [] i h = omega arith
span-numbered c r k (t ∷ ts) zero h = step-numbered r k t (size_of c t) h
span-numbered c r k (t ∷ ts) (suc i) h = span-numbered c r (next_of r k t (size_of c t)) ts i (named-next r k t (size_of c t) h)

-- what is in memory lies in the home
pub record Homed (s : Span) : Type 0 where
  pub from : s.home.start ≤ s.memory.start
  pub to : s.memory.start + s.memory.length ≤ s.home.start + s.home.length

pub span-homed : (c : Convention) (r : CallRules) (k : Cursor) (ts : List ValueType) (i : ℕ) → Homed (span_in c r k ts i)
unfolding spans_of
span-homed c r k [] i = record { from = omega arith; to = omega arith }
span-homed c r k (t ∷ ts) zero = let b = step-between r k t (size_of c t) in record { from = b.memory-from; to = b.memory-to }
span-homed c r k (t ∷ ts) (suc i) = span-homed c r (next_of r k t (size_of c t)) ts i

-- ---- two spans

ordered-apart : (c : Convention) (r : CallRules) (k : Cursor) (ts : List ValueType) (i j : ℕ) (x : Spot) → i < j
    → Owns (span_in c r k ts i) x → Owns (span_in c r k ts j) x → ⊥
unfolding spans_of
ordered-apart c r k [] i j x h a b = none_owned x a
ordered-apart c r k (t ∷ ts) zero zero x h a b = omega arith
ordered-apart c r k (t ∷ ts) zero (suc j) x h a b =
    before-from (next_of r k t (size_of c t)) x (owns-before r k t (size_of c t) x a) (owned-from c r (next_of r k t (size_of c t)) ts j x b)
ordered-apart c r k (t ∷ ts) (suc i) zero x h a b = omega arith
ordered-apart c r k (t ∷ ts) (suc i) (suc j) x h a b = ordered-apart c r (next_of r k t (size_of c t)) ts i j x (omega arith) a b

pub owned-apart : (c : Convention) (r : CallRules) (k : Cursor) (ts : List ValueType) (i j : ℕ) (x : Spot) → (i ≡ j → ⊥)
    → Owns (span_in c r k ts i) x → Owns (span_in c r k ts j) x → ⊥
owned-apart c r k ts i j x h a b = go (ltb i j) refl
  where
    go : (t : Bool) → ltb i j ≡ t → ⊥
    go true e = ordered-apart c r k ts i j x (ltb-true i j e) a b
    go false e = let l : j ≤ i = ltb-false i j e in ordered-apart c r k ts j i x (omega arith) b a
