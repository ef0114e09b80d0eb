-- The registers that a plan names: argument registers of its convention, which a frame may write but for r6 on Z. Assumes nothing.
use mathlib.Core.Path.{◌≡◌, refl, ap}
use mathlib.Core.Logic.{⊎_elim}
use mathlib.Core.Bool.{Bool, true, ◌&&◌}
use mathlib.Core.List.{List, [], ◌∷◌, ◌++◌, map}
use Prim.Native.Nat.{ℕ, zero, suc, ◌+◌, ◌≤◌, ◌<◌}
use native.Mathlib.Omega.{arith}
use borrow.Author.Tests.{le-leb}
use lib.Dec.{leb}
use Rattle.base_words.specs.Basics.{All}
use Rattle.base_conventions.specs.declared.Convention.{Convention}
use Rattle.sig_items.specs.Reading.{Reading, got, no}
use Rattle.sig_signatures.specs.Signature.{Signature}
use Rattle.sig_signatures.specs.Read.{signature_of}
use Rattle.sig_signatures.specs.Answer.{result_type}
use Rattle.plan_places.specs.declared.Bank.{Bank}
use Rattle.plan_places.specs.declared.Span.{Span}
use Rattle.plan_places.specs.declared.ResultPlaces.{ResultPlaces}
use Rattle.plan_places.specs.Values.{pointer}
use Rattle.plan_places.specs.Power.{words, fprs, share_of, power_share}
use Rattle.plan_places.specs.ZSeries.{z_class, z_span_of}
use Rattle.plan_places.specs.Step.{rules_of, word_of, span_of, fresh_cursor}
use Rattle.plan_places.specs.Places.{up_from}
use Rattle.plan_places.specs.Spots.{Spot, general, floating, InRegisters, ArgumentRegister}
use Rattle.plan_plans.specs.declared.Plan.{Plan}
use Rattle.plan_plans.specs.Plan.{no_span, plan_in, plan_answer}
use Rattle.plan_plans.proofs.Theorems as plans
use Rattle.call_slots.specs.Arguments.{plan_for}
use Rattle.base_words.proofs.Basics.{le-or-lt}
use Rattle.base_words.proofs.Tests.{or_left, or_right}
use Rattle.base_words.proofs.Each.{each_both, each_left, each_right, each-with, each_at}
use Rattle.frame_rules.specs.declared.Frame.{Frame}
use Rattle.frame_rules.specs.Rules.{within, rules}
use Rattle.frame_rules.specs.Frames.{first_gpr_of, first_fpr_of}
use Rattle.both_meeting.proofs.Theorem.{agree}
use Rattle.both_whole_call.specs.Put.{Register, register, range_registers, span_registers, hidden_spans, named}
use Rattle.both_whole_call.specs.Caller.{Free, SavedSix}

-- ---- registers of spans

module _ (P : Register → Type 0) where
  -- each register of a span
  pub record OfSpan (s : Span) : Type 0 where
    pub floats : (n : ℕ) → InRegisters s.floating n → P (register Bank.Floating n)
    pub generals : (n : ℕ) → InRegisters s.general n → P (register Bank.General n)

  in-range : (b : Bank) (first count : ℕ) → ((n : ℕ) → first ≤ n → n < first + count → P (register b n)) → All P (map (register b) (up_from first 1 count))
  unfolding up_from All
  in-range b first zero h = tt
  in-range b first (suc count) h = (h first (omega arith) (omega arith), in-range b (first + 1) count (λ n p q. h n (omega arith) (omega arith)))

  of_range : (b : Bank) (first count : ℕ) → All P (map (register b) (up_from first 1 count)) → (n : ℕ) → first ≤ n → n < first + count → P (register b n)
  unfolding up_from All
  of_range b first zero h n p q = absurd (omega arith)
  of_range b first (suc count) h n p q =
      ⊎_elim (λ u. of_range b (first + 1) count h.1 n u (omega arith)) (λ u. let e : n ≡ first = omega arith in rw e h.0) (le-or-lt (first + 1) n)

  pub in-spans : (ss : List Span) → All OfSpan ss → All P (span_registers ss)
  unfolding span_registers range_registers All
  in-spans [] h = tt
  in-spans (s ∷ ss) h =
      let f : List Register = range_registers Bank.Floating s.floating in
      let g : List Register = range_registers Bank.General s.general in
      each_both P f (g ++ span_registers ss) (in-range Bank.Floating s.floating.first s.floating.count (λ n p q. h.0.floats n (p, q)))
      (each_both P g (span_registers ss) (in-range Bank.General s.general.first s.general.count (λ n p q. h.0.generals n (p, q))) (in-spans ss h.1))

  pub of-spans : (ss : List Span) → All P (span_registers ss) → All OfSpan ss
  unfolding span_registers range_registers All
  of-spans [] h = tt
  of-spans (s ∷ ss) h =
      let f : List Register = range_registers Bank.Floating s.floating in
      let g : List Register = range_registers Bank.General s.general in
      let rest = each_right P f (g ++ span_registers ss) h in (
        record {
          floats = λ n p. of_range Bank.Floating s.floating.first s.floating.count (each_left P f (g ++ span_registers ss) h) n p.0 p.1;
          generals = λ n p. of_range Bank.General s.general.first s.general.count (each_left P g (span_registers ss) rest) n p.0 p.1;
        },
        of-spans ss (each_right P g (span_registers ss) rest),
      )

-- ---- those of a plan

abbrev pub spot_of : Bank → ℕ → Spot
spot_of Bank.General n = general n
spot_of Bank.Floating n = floating n

abbrev pub Argument : Convention → Register → Type 0
Argument c x = ArgumentRegister (rules_of c) (spot_of x.bank x.number)

hidden-arguments : (s : List ℕ) (q : ResultPlaces) → (plan_for s).result ≡ q → All (OfSpan (Argument (plan_for s).convention)) (hidden_spans q)
unfolding All
hidden-arguments s ResultPlaces.Nothing e = tt
hidden-arguments s (ResultPlaces.Registers x) e = tt
hidden-arguments s (ResultPlaces.Hidden x) e =
    let w = (plans.within (signature_of s)).hidden x e in (record { floats = λ n o. w.registers (floating n) o; generals = λ n o. w.registers (general n) o }, tt)

pub named-arguments : (s : List ℕ) → All (Argument (plan_for s).convention) (named (plan_for s))
named-arguments s =
    let p : Plan = plan_for s in
    let w = plans.within (signature_of s) in
    in-spans (Argument p.convention) (hidden_spans p.result ++ p.spans)
    (each_both (OfSpan (Argument p.convention)) (hidden_spans p.result) p.spans (hidden-arguments s p.result refl)
    (each_at (OfSpan (Argument p.convention)) no_span p.spans
    (λ i. record { floats = λ n o. (w.arguments i).registers (floating n) o; generals = λ n o. (w.arguments i).registers (general n) o })))

-- a hidden address has one general register, and no other
abbrev One : Span → Type 0
One x = (x.general.count ≡ 1) × (x.floating.count ≡ 0)

address-one : (c : Convention) → One (span_of (rules_of c) (fresh_cursor (rules_of c)) pointer (word_of (rules_of c)))
unfolding span_of fresh_cursor words fprs share_of power_share z_class z_span_of
address-one Convention.Ppc64 = (refl, refl)
address-one Convention.Z = (refl, refl)
address-one Convention.Aix = (refl, refl)
address-one Convention.Ppc64b = (refl, refl)

pub hidden-one : (y : Reading Signature) (x : Span) → (plan_answer y).result ≡ ResultPlaces.Hidden x → One x
unfolding plan_answer plan_in
hidden-one (got g next n) x e = rw (plans.hidden-address g.convention (result_type g.convention g.result) x e).0 (address-one g.convention)
hidden-one (no f) x e = let z : ◌≡◌ {A = ℕ} 0 1 = cc in absurd (omega arith)

-- ---- a frame may write them

-- r6 on Z is f's to write where f saved it
abbrev Six : Convention → Frame → Register → Type 0
Six c f x = c ≡ Convention.Z → x ≡ register Bank.General 6 → first_gpr_of f ≤ 6

free : (c : Convention) (f : Frame) (x : Register) → Argument c x → Six c f x → Free (rules c) f x
free c f x a saved = go x.bank a (λ z e. saved z e)
  where
    go : (b : Bank) → Argument c (register b x.number) → Six c f (register b x.number) → Free (rules c) f (register b x.number)
    go Bank.Floating a saved =
        or_left (within (rules c).fpr.volatile x.number) (leb (first_fpr_of f) x.number && leb x.number (rules c).fpr.last) ((agree c).floating-free x.number a)
    go Bank.General a saved = ⊎_elim (λ v. or_left volatile own v) (λ v. or_right volatile own (six v)) ((agree c).general-free x.number a)
      where
        volatile : Bool
        volatile = within (rules c).gpr.volatile x.number

        own : Bool
        own = leb (first_gpr_of f) x.number && leb x.number (rules c).gpr.last

        six : (c ≡ Convention.Z) × (x.number ≡ 6) → own ≡ true
        six v = rw (v.0, v.1, le-leb (first_gpr_of f) 6 (saved v.0 (ap (register Bank.General) v.1)))

sixes : (c : Convention) (f : Frame) (xs : List Register) → (c ≡ Convention.Z → All (λ (x : Register). x ≡ register Bank.General 6 → first_gpr_of f ≤ 6) xs) → All (Six c f) xs
unfolding All
sixes c f [] h = tt
sixes c f (x ∷ xs) h = (λ z e. (h z).0 e, sixes c f xs (λ z. (h z).1))

-- a frame may write all registers that a plan names, but on Z for r6, which it must have saved
pub named-free : (s : List ℕ) (f : Frame) → SavedSix (plan_for s) f → All (Free (rules (plan_for s).convention) f) (named (plan_for s))
named-free s f saved =
    let c : Convention = (plan_for s).convention in
    each-with (Argument c) (Six c f) (Free (rules c) f) (λ x a z. free c f x a z) (named (plan_for s)) (named-arguments s) (sixes c f (named (plan_for s)) saved)
