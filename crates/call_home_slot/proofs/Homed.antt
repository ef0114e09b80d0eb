-- The home of each argument on PowerPC holds all its words, and lies in the parameter area. Assumes nothing.
use Rattle.std.proofs.Common.{Option}
use mathlib.Core.Path.{◌≡◌, refl, sym, subst}
use mathlib.Core.Bool.{Bool, true, false}
use mathlib.Core.List.{List, [], ◌∷◌}
use Prim.Native.Nat.{ℕ, zero, suc, ◌+◌, ◌-◌, ◌*◌, ◌≤◌, ◌<◌}
use native.Mathlib.Omega.{arith}
use native.Mathlib.Nat.{mul-zero}
use lib.Dec.{leb}
use lib.ListN.{get_or, drop}
use Rattle.base_words.specs.Basics.{pick, All}
use Rattle.base_conventions.specs.declared.Convention.{Convention}
use Rattle.sig_types.specs.declared.FloatFormat.{FloatFormat}
use Rattle.sig_types.specs.declared.ValueType.{ValueType}
use Rattle.sig_types.specs.Sizes.{size_of, equivalent_of}
use Rattle.sig_items.specs.declared.Fault.{Fault}
use Rattle.sig_items.specs.Reading.{Reading, got, no}
use Rattle.sig_signatures.specs.Signature.{Signature}
use Rattle.sig_signatures.specs.Read.{signature_of}
use Rattle.sig_signatures.specs.Answer.{result_type, signature_answer}
use Rattle.sig_signatures.specs.Types.{types_of}
use Rattle.plan_places.specs.declared.Cursor.{Cursor}
use Rattle.plan_places.specs.declared.CallRules.{CallRules}
use Rattle.plan_places.specs.Values.{share}
use Rattle.plan_places.specs.declared.Edition.{Edition}
use Rattle.plan_places.specs.Power.{words, fprs, covered, share_of, power_share}
use Rattle.plan_places.specs.Step.{rules_of, with_ellipsis, span_of, next_of}
use Rattle.plan_places.proofs.Bounds.{area-holds}
use Rattle.plan_plans.specs.Plan.{spans_of, last_of, start_in, last_cursor_in, plan_in, plan_answer}
use Rattle.plan_plans.proofs.Fold.{last-forward, last-marked}
use Rattle.call_slots.specs.Forms.{room_of, starts_at_head, own_start}
use Rattle.call_slots.specs.Placements.{Placement, placement, placements}
use Rattle.call_slots.specs.Helpers.{Held}
use Rattle.call_slots.specs.Arguments.{placements_in, arguments_of, plan_for, rules_in, rules_for}
use Rattle.call_slots.proofs.Answered.{arguments-got}
use Rattle.call_home_slot.specs.Homes.{homeless}
use Rattle.call_home_slot.specs.Helpers.{fills_words, Homed}

-- ---- each argument, over the bytes w of a word, the edition and the ellipsis

module _ (w : ℕ) (least : 4 ≤ w) (most : w ≤ 8) (e : Edition) (v : Bool) where
  abbrev rules : CallRules
  rules = CallRules.Power (record { word = w; edition = e; ellipsis = v })

  float-fills : (k : Cursor) (t : ValueType) (n : ℕ) → 0 < (span_of rules k t n).floating.count → starts_at_head rules t ≡ fills_words (equivalent_of t)
  unfolding span_of power_share share_of fprs starts_at_head
  float-fills k (ValueType.Integer x) n h = absurd (omega arith)
  float-fills k (ValueType.Float FloatFormat.Single) n h = refl
  float-fills k (ValueType.Float FloatFormat.Double) n h = refl
  float-fills k (ValueType.Float FloatFormat.LongDouble) n h = refl
  float-fills k (ValueType.Struct s) n h = absurd (omega arith)

  -- words in memory follow those in registers
  share-follows : (x : Bool) (m room at n k : ℕ) → k ≤ n → 0 < w * (share_of x m room n k).memory
      → at + w * (n - (share_of x m room n k).memory) ≡ at + w * (share_of x m room n k).general
  unfolding share_of
  share-follows x zero room at n k l q = let z : n - (n - k) ≡ k = omega arith in rw z
  share-follows true (suc m) room at n k l q = let z : n - (n - k) ≡ k = omega arith in rw z
  share-follows false (suc m) room at n k l q = go (leb (suc m) room) q
    where
      go : (b : Bool) → 0 < w * (pick b (share 0 (suc m) 0) (share 0 0 n)).memory
          → at + w * (n - (pick b (share 0 (suc m) 0) (share 0 0 n)).memory) ≡ at + w * (pick b (share 0 (suc m) 0) (share 0 0 n)).general
      go true q = absurd (omega (arith, mul-zero w))
      go false q = let z : n - n ≡ 0 = omega arith in rw z

  memory-follows : (k : Cursor) (t : ValueType) (n : ℕ) → 0 < (span_of rules k t n).memory.length
      → (span_of rules k t n).memory.start ≡ k.stack + w * (span_of rules k t n).general.count
  unfolding span_of power_share
  memory-follows k t n h = share-follows v (fprs e t) (14 - k.floating) k.stack (words w n) (covered k (words w n)) (omega arith) h

  step-homed : (k : Cursor) (t : ValueType) (n a : ℕ) → (next_of rules k t n).stack ≤ a → Homed rules a (placement t n (span_of rules k t n))
  unfolding span_of next_of
  step-homed k t n a h = record { homes = refl; direct = refl; room = refl; within = omega arith; float = float-fills k t n; follows = memory-follows k t n }

  -- of any convention's sizes
  all-homed : (c : Convention) (k : Cursor) (ts : List ValueType) (a : ℕ) → (last_of c rules k ts).stack ≤ a → All (Homed rules a) (placements c ts (spans_of c rules k ts))
  unfolding placements spans_of last_of All
  all-homed c k [] a h = tt
  all-homed c k (t ∷ ts) a h =
      let d : Cursor = next_of rules k t (size_of c t) in
      (step-homed k t (size_of c t) a (omega (arith, last-forward c rules d ts)), all-homed c d ts a h)

rules-homed : (c : Convention) (v : Bool) (k : Cursor) (ts : List ValueType) (a : ℕ) → homeless (with_ellipsis v (rules_of c)) ≡ false
    → (last_of c (with_ellipsis v (rules_of c)) k ts).stack ≤ a → All (Homed (with_ellipsis v (rules_of c)) a) (placements c ts (spans_of c (with_ellipsis v (rules_of c)) k ts))
unfolding with_ellipsis
rules-homed Convention.Ppc64 v k ts a e h = all-homed 8 (omega arith) (omega arith) Edition.Earlier v Convention.Ppc64 k ts a h
rules-homed Convention.Z v k ts a e h = let z : ◌≡◌ {A = ℕ} 0 1 = cc in absurd (omega arith)
rules-homed Convention.Aix v k ts a e h = all-homed 4 (omega arith) (omega arith) Edition.Earlier v Convention.Aix k ts a h
rules-homed Convention.Ppc64b v k ts a e h = all-homed 8 (omega arith) (omega arith) Edition.Later v Convention.Ppc64b k ts a h

-- ---- a whole signature

plan-homed : (n : ℕ) (c : Convention) (v : Bool) (r : Option ValueType) (ts : List ValueType) → homeless (with_ellipsis v (rules_of c)) ≡ false
    → All (Homed (with_ellipsis v (rules_of c)) (plan_in n c v r ts).area) (placements c ts (spans_of c (with_ellipsis v (rules_of c)) (start_in c r) ts))
unfolding plan_in
plan-homed n c v r ts e = rules-homed c v (start_in c r) ts _ e (rw (last-marked c v (rules_of c) (start_in c r) ts) (area-holds c (last_cursor_in c r ts)))

refused-homed : (r : CallRules) (f : Fault) → All (Homed r (plan_answer (no f)).area) (placements_in (signature_answer (no f)) (plan_answer (no f)))
unfolding placements_in placements All
refused-homed r f = tt

pub homed_all : (s : List ℕ) → homeless (rules_for s) ≡ false → All (Homed (rules_for s) (plan_for s).area) (arguments_of s)
unfolding arguments_of plan_answer
homed_all s e = go (signature_of s) e
  where
    go : (x : Reading Signature) → homeless (rules_in (signature_answer x)) ≡ false
        → All (Homed (rules_in (signature_answer x)) (plan_answer x).area) (placements_in (signature_answer x) (plan_answer x))
    go (got g next n) q =
        subst (All (Homed (with_ellipsis g.ellipsis (rules_of g.convention)) (plan_answer (got g next n)).area)) (sym (arguments-got g next n))
        (plan-homed n g.convention g.ellipsis (result_type g.convention g.result) (types_of g.convention g.arguments) q)
    go (no f) q = refused-homed (rules_in (signature_answer (no f))) f

-- ---- one of them

pub all-at : (P : Placement → Type 0) (ps : List Placement) (i : ℕ) (p : Placement) (qs : List Placement) → drop i ps ≡ p ∷ qs → All P ps → P p
unfolding All
all-at P [] zero p qs e h = let z : ◌≡◌ {A = ℕ} 0 1 = cc in absurd (omega arith)
all-at P [] (suc i) p qs e h = let z : ◌≡◌ {A = ℕ} 0 1 = cc in absurd (omega arith)
all-at P (x ∷ ps) zero p qs e h = let q : x ≡ p = cc in subst P q h.0
all-at P (x ∷ ps) (suc i) p qs e h = all-at P ps i p qs e h.1

pub get_or-at : (ps : List Placement) (i : ℕ) (p none : Placement) (qs : List Placement) → drop i ps ≡ p ∷ qs → get_or ps i none ≡ p
get_or-at [] zero p none qs e = let z : ◌≡◌ {A = ℕ} 0 1 = cc in absurd (omega arith)
get_or-at [] (suc i) p none qs e = let z : ◌≡◌ {A = ℕ} 0 1 = cc in absurd (omega arith)
get_or-at (x ∷ ps) zero p none qs e = cc
get_or-at (x ∷ ps) (suc i) p none qs e = get_or-at ps i p none qs e

-- the value's own bytes in its home
pub own-homed : (r : CallRules) (p : Placement) (a : ℕ) → Held r p → Homed r a p → p.span.home.start + own_start r p.ty p.size + p.size ≤ a
unfolding own_start
own-homed r p a h m = go (starts_at_head r p.ty)
  where
    go : (b : Bool) → p.span.home.start + pick b 0 (room_of r p.size - p.size) + p.size ≤ a
    go true = omega (arith, m.within, h.room m.direct)
    go false = omega (arith, m.within, h.room m.direct)
