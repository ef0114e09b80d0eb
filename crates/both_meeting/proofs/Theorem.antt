-- The numbers of both families agree, and the area of an accepted call is one that a request may ask for (specs/Meeting.antt states it). Assumes nothing.
use Rattle.std.proofs.Common.{Ok, Option}
use mathlib.Core.Path.{◌≡◌, refl}
use mathlib.Core.Logic.{inl, inr, ⊎_elim}
use mathlib.Core.Bool.{Bool, true, false, not, ◌||◌}
use Prim.Native.Nat.{ℕ, ◌+◌, ◌*◌, ◌%◌, ◌≤◌, max}
use native.Mathlib.Omega.{arith}
use borrow.Author.Tests.{le-leb, eq-eqb}
use lib.Dec.{leb, eqb}
use Rattle.base_words.specs.Basics.{round_up}
use Rattle.base_conventions.specs.declared.Convention.{Convention}
use Rattle.base_conventions.specs.Numbers.{word_bytes, least_area}
use Rattle.sig_types.specs.declared.ValueType.{ValueType}
use Rattle.sig_types.specs.Sizes.{size_of}
use Rattle.sig_types.specs.Limits.{AllSized}
use Rattle.sig_types.specs.Trees.{Trees, none, ◌▸◌, type_of, count_of}
use Rattle.sig_items.specs.declared.Fault.{Fault}
use Rattle.sig_items.specs.Reading.{Reading, got, no}
use Rattle.sig_signatures.specs.Limits.{max_arguments}
use Rattle.sig_signatures.specs.Signature.{Signature}
use Rattle.sig_signatures.specs.Read.{signature_of}
use Rattle.sig_signatures.specs.Answer.{result_type}
use Rattle.sig_signatures.proofs.Theorems.{accepted}
use Rattle.plan_places.specs.declared.Cursor.{Cursor}
use Rattle.plan_places.specs.declared.ZClass.{ZClass}
use Rattle.plan_places.specs.Values.{pointer}
use Rattle.plan_places.specs.Power.{words}
use Rattle.plan_places.specs.ZSeries.{z_class, z_next_of}
use Rattle.plan_places.specs.Step.{rules_of, next_of, fresh_cursor, start_of, area_of}
use Rattle.plan_plans.specs.Plan.{last_of, hidden_in, start_in, last_cursor_in, plan_in, plan_answer}
use Rattle.sig_signatures.specs.Types.{types_of}
use Rattle.plan_plans.specs.Call.{called}
use Rattle.plan_plans.proofs.Fold.{last_more}
use Rattle.base_words.proofs.Basics.{le-or-lt}
use Rattle.base_words.proofs.Tests.{and_yes, or_left, or_right}
use Rattle.frame_rules.specs.declared.FrameRules.{FrameRules}
use Rattle.frame_rules.specs.declared.Frame.{Frame}
use Rattle.frame_rules.specs.Rules.{span, in_span, rules}
use Rattle.frame_rules.specs.Frames.{first_gpr_of, first_fpr_of, saves_cr_of, has_condition, max_outgoing, ok_leaf, ok_request}
use Rattle.both_meeting.specs.Meeting.{FamiliesAgree, asking, Requested, AreaRequested}

-- ---- the numbers

-- a number from a to b is in the span
in-span : (a n b : ℕ) → a ≤ n → n ≤ b → in_span (span a b) n ≡ true
in-span a n b p q = rw (le-leb a n p, le-leb n b q)

-- r3 to r10 and f1 to f13 of any PowerPC convention
power-general : (n : ℕ) → 3 ≤ n → n ≤ 10 → (in_span (span 0 0) n || (in_span (span 3 12) n || false)) ≡ true
power-general n a b = or_right (in_span (span 0 0) n) _ (or_left (in_span (span 3 12) n) false (in-span 3 n 12 a (omega arith)))

power-floating : (n : ℕ) → n ≤ 13 → (in_span (span 0 13) n || (in_span (span 0 13) n || false)) ≡ true
power-floating n b = or_left (in_span (span 0 13) n) _ (in-span 0 n 13 (omega arith) b)

pub agree : FamiliesAgree
agree Convention.Ppc64 = record {
  word = refl;
  header = refl;
  alignment = refl;
  least = refl;
  pointer = λ a. omega arith;
  general-free = λ n a. inl (power-general n a.0 a.1);
  floating-free = λ n a. power-floating n a.1;
}
agree Convention.Z = record {
  word = refl;
  header = refl;
  alignment = refl;
  least = refl;
  pointer = λ a. omega arith;
  general-free = λ n a. ⊎_elim (λ p. inl (or_left (in_span (span 0 5) n) _ (in-span 0 n 5 (omega arith) p))) (λ p. inr (refl, omega arith)) (le-or-lt n 5);
  floating-free = λ n a. or_left (in_span (span 0 7) n) _ (in-span 0 n 7 (omega arith) (omega arith));
}
agree Convention.Aix = record {
  word = refl;
  header = refl;
  alignment = refl;
  least = refl;
  pointer = λ a. omega arith;
  general-free = λ n a. inl (power-general n a.0 a.1);
  floating-free = λ n a. power-floating n a.1;
}
agree Convention.Ppc64b = record {
  word = refl;
  header = refl;
  alignment = refl;
  least = refl;
  pointer = λ a. omega arith;
  general-free = λ n a. inl (power-general n a.0 a.1);
  floating-free = λ n a. power-floating n a.1;
}

-- ---- the area

-- an argument of at most 256 bytes moves the area by at most that, and by words of w bytes
record Moves (w : ℕ) (c d : Cursor) : Type 0 where
  stack : d.stack ≤ c.stack + 256
  whole : c.stack % w ≡ 0 → d.stack % w ≡ 0

z-moves : (c : Cursor) (class : ZClass) (n : ℕ) → Moves 8 c (z_next_of c class n)
unfolding z_next_of
z-moves c ZClass.Float n = record { stack = omega arith; whole = λ e. omega arith }
z-moves c ZClass.Simple n = record { stack = omega arith; whole = λ e. omega arith }
z-moves c ZClass.Reference n = record { stack = omega arith; whole = λ e. omega arith }

moves : (v : Convention) (c : Cursor) (t : ValueType) (n : ℕ) → n ≤ 256 → Moves (word_bytes v) c (next_of (rules_of v) c t n)
unfolding next_of words
moves Convention.Ppc64 c t n h = record { stack = omega arith; whole = λ e. omega arith }
moves Convention.Z c t n h = z-moves c (z_class t n) n
moves Convention.Aix c t n h = record { stack = omega arith; whole = λ e. omega arith }
moves Convention.Ppc64b c t n h = record { stack = omega arith; whole = λ e. omega arith }

-- a hidden address moves it by a doubleword at most
start-moves : (v : Convention) (hidden : Bool) → ((start_of (rules_of v) hidden).stack ≤ 8) × ((start_of (rules_of v) hidden).stack % word_bytes v ≡ 0)
unfolding start_of next_of fresh_cursor words z_class z_next_of
start-moves Convention.Ppc64 true = (omega arith, refl)
start-moves Convention.Ppc64 false = (omega arith, refl)
start-moves Convention.Z true = (omega arith, refl)
start-moves Convention.Z false = (omega arith, refl)
start-moves Convention.Aix true = (omega arith, refl)
start-moves Convention.Aix false = (omega arith, refl)
start-moves Convention.Ppc64b true = (omega arith, refl)
start-moves Convention.Ppc64b false = (omega arith, refl)

last-moves : (v : Convention) (k : Cursor) (ts : Trees) → AllSized v ts → k.stack % word_bytes v ≡ 0
    → ((last_of v (rules_of v) k (types_of v ts)).stack ≤ k.stack + 256 * count_of ts) × ((last_of v (rules_of v) k (types_of v ts)).stack % word_bytes v ≡ 0)
unfolding types_of AllSized count_of last_of
last-moves v k none a e = (omega arith, e)
last-moves v k (ts ▸ t) a e =
    let d : Cursor = last_of v (rules_of v) k (types_of v ts) in
    let before = last-moves v k ts a.0 e in
    let m : Moves (word_bytes v) d (next_of (rules_of v) d (type_of v t) (size_of v (type_of v t))) = moves v d (type_of v t) (size_of v (type_of v t)) a.1.small in
    rw (last_more v (rules_of v) k (types_of v ts) (type_of v t)) (omega (arith, before.0, m.stack), m.whole before.1)

-- the area of a last cursor: whole words, from the least area on, and no more than the bytes used and the least
record Area (v : Convention) (a n : ℕ) : Type 0 where
  whole : a % word_bytes v ≡ 0
  most : a ≤ max 64 n
  exact : max (least_area v) (round_up a 8) ≡ round_up a 8

area-is : (v : Convention) (d : Cursor) → d.stack % word_bytes v ≡ 0 → Area v (area_of v d) d.stack
unfolding area_of round_up
area-is Convention.Ppc64 d e = record { whole = omega arith; most = omega arith; exact = omega arith }
area-is Convention.Z d e = record { whole = omega arith; most = omega arith; exact = omega arith }
area-is Convention.Aix d e = record { whole = omega arith; most = omega arith; exact = omega arith }
area-is Convention.Ppc64b d e = record { whole = omega arith; most = omega arith; exact = omega arith }

-- ---- the request

ask : (k : FrameRules) (f : Frame) (a : ℕ) → f.leaf ≡ false → a % 8 ≡ 0 → a ≤ max_outgoing → ok_request k f ≡ true → ok_request k (asking f a) ≡ true
unfolding ok_request ok_leaf
ask k f a solid e h r =
    let x = and_yes (in_span k.gpr.request (first_gpr_of f)) _ r in
    let y = and_yes (in_span k.fpr.request (first_fpr_of f)) _ x.1 in
    let z = and_yes (leb f.locals 32000) _ y.1 in
    let u = and_yes (eqb (f.outgoing % 8) 0) _ z.1 in
    let w = and_yes (leb f.outgoing max_outgoing) _ u.1 in
    let q = and_yes (ok_leaf k f) (has_condition k.linkage || not (saves_cr_of f)) w.1 in
    rw (x.0, y.0, z.0, eq-eqb (a % 8) 0 e, le-leb a max_outgoing h, solid) q.1

-- rounded up to a multiple of 8
round : (a n : ℕ) → n % 8 ≡ 0 → a ≤ n → (a ≤ round_up a 8) × (round_up a 8 ≤ n) × (round_up a 8 % 8 ≡ 0)
unfolding round_up
round a n e h = (omega arith, omega arith, omega arith)

requested-in : (g : Signature) (next n : ℕ) → AllSized g.convention g.arguments → count_of g.arguments ≤ max_arguments → Requested (plan_answer (got g next n))
unfolding plan_answer plan_in
requested-in g next n sized few =
    let c : Convention = g.convention in
    let r : (Option ValueType) = result_type c g.result in
    let first = start-moves c (hidden_in c r) in
    let last = last-moves c (start_in c r) g.arguments sized first.1 in
    let d : Cursor = last_cursor_in c r (types_of c g.arguments) in
    let a : Area c (area_of c d) d.stack = area-is c d last.1 in
    let up = round (area_of c d) max_outgoing refl (omega (arith, first.0, last.0, a.most)) in
    record {
      whole = a.whole;
      holds = up.0;
      most = omega (arith, up.1);
      accepted = λ f solid e. ask (rules c) f (round_up (area_of c d) 8) solid up.2 up.1 e;
      exact = λ f. rw (agree c).least a.exact;
    }

refused-not : (f : Fault) (n : ℕ) → (plan_answer (no f)).outcome ≡ Ok n → ⊥
unfolding plan_answer
refused-not f n e = let z : ◌≡◌ {A = ℕ} 0 1 = cc in omega arith

-- THE FAMILIES MEET
pub requested : AreaRequested
unfolding called
requested s n = go (signature_of s) refl
  where
    go : (x : Reading Signature) → signature_of s ≡ x → (plan_answer (called x)).outcome ≡ Ok n → Requested (plan_answer x)
    go (got g next m) q e = let a = accepted s g next m q in requested-in g next m a.arguments a.within.few
    go (no f) q e = absurd (refused-not f n e)
