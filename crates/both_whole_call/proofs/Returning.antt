-- A leave leaves the result in its registers: no frame saves them, so none is restored. Assumes nothing.
use Rattle.std.proofs.Common.{Some, None, Option}
use mathlib.Core.Path.{◌≡◌, refl, ◌∙◌}
use mathlib.Core.Bool.{Bool, true, false}
use mathlib.Core.List.{List, [], ◌∷◌}
use Prim.Native.Nat.{ℕ, ◌+◌, ◌≤◌, ◌<◌}
use native.Mathlib.Omega.{arith}
use lib.Seq.{get_or-set_other}
use Rattle.base_words.specs.Basics.{pick, All}
use Rattle.frame_saves.specs.Saves.{taken}
use Rattle.frame_saves.proofs.Taking.{taken-under}
use Rattle.base_conventions.specs.declared.Convention.{Convention}
use Rattle.sig_types.specs.declared.ValueType.{ValueType}
use Rattle.sig_types.specs.Sizes.{size_of}
use Rattle.sig_items.specs.Reading.{Reading, got, no}
use Rattle.sig_signatures.specs.Signature.{Signature}
use Rattle.sig_signatures.specs.Read.{signature_of}
use Rattle.sig_signatures.specs.Answer.{result_type}
use Rattle.plan_places.specs.declared.Bank.{Bank}
use Rattle.plan_places.specs.declared.PowerRules.{PowerRules}
use Rattle.plan_places.specs.declared.CallRules as arguments
use Rattle.plan_places.specs.declared.ResultPlaces.{ResultPlaces}
use Rattle.plan_places.specs.declared.ZClass.{ZClass}
use Rattle.plan_places.specs.Values.{pointer}
use Rattle.plan_places.specs.ZSeries.{z_class, z_span_of}
use Rattle.plan_places.specs.Step.{rules_of, word_of, span_of, fresh_cursor, hidden_for, returning, result_of}
use Rattle.plan_places.specs.Spots.{general, floating}
use Rattle.plan_places.proofs.Bounds.{Named, named-fresh}
use Rattle.plan_places.proofs.Registers.{step-registers}
use Rattle.plan_plans.specs.Plan.{result_places_in, plan_in, plan_answer}
use Rattle.call_slots.specs.Arguments.{plan_for}
use Rattle.frame_rules.specs.declared.FrameRules.{FrameRules}
use Rattle.frame_rules.specs.declared.Frame.{Frame}
use Rattle.frame_rules.specs.declared.Registers.{Registers}
use Rattle.frame_rules.specs.Rules.{rules}
use Rattle.frame_rules.specs.Frames.{ok_request, frame_size, gpr_save, fpr_save, restored}
use Rattle.frame_rules.proofs.Places.{ranges}
use Rattle.std.specs.Prelude.{Ok}
use Rattle.frame_machine.specs.declared.State.{State}
use Rattle.frame_machine.specs.Machine.{stack_pointer, offset, top, left, leave_outcome}
use Rattle.frame_history.specs.Calls.{leave, Machine, answer, after}
use Rattle.frame_history.specs.Preserved.{OpenEnter}
use Rattle.frame_history.proofs.Invariant.{Invariant, top-is}
use Rattle.both_whole_call.specs.Put.{Register, register, held_in, span_registers, result_spans}
use Rattle.both_whole_call.specs.Caller.{bank_in, first_saved}
use Rattle.both_whole_call.proofs.Named.{OfSpan, in-spans}

-- a register below those that a request may save, and not the stack pointer
pub record Volatile (k : FrameRules) (x : Register) : Type 0 where
  pub low : x.number < (bank_in k x.bank).request.first
  pub other : x.bank ≡ Bank.General → x.number ≡ k.pointer → ⊥

float-volatile : (k : FrameRules) (n : ℕ) → n < k.fpr.request.first → Volatile k (register Bank.Floating n)
float-volatile k n h = record { low = h; other = λ e q. let z : ◌≡◌ {A = ℕ} 0 1 = cc in omega arith }

general-volatile : (k : FrameRules) (n : ℕ) → n < k.gpr.request.first → (n ≡ k.pointer → ⊥) → Volatile k (register Bank.General n)
general-volatile k n h q = record { low = h; other = λ e. q }

-- ---- where a result is

-- r2 or f0
z-result : (class : ZClass) (n : ℕ) → OfSpan (Volatile (rules Convention.Z)) (z_span_of (fresh_cursor arguments.CallRules.Z) class n)
unfolding z_span_of fresh_cursor
z-result ZClass.Float n = record { floats = λ i p. float-volatile _ i (omega arith); generals = λ i p. general-volatile _ i (omega arith) (λ e. omega arith) }
z-result ZClass.Simple n = record { floats = λ i p. float-volatile _ i (omega arith); generals = λ i p. general-volatile _ i (omega arith) (λ e. omega arith) }
z-result ZClass.Reference n = record { floats = λ i p. float-volatile _ i (omega arith); generals = λ i p. general-volatile _ i (omega arith) (λ e. omega arith) }

-- argument registers of PowerPC, which are below those that any of its frames saves
power-result : (k : FrameRules) → 11 ≤ k.gpr.request.first → 14 ≤ k.fpr.request.first → k.pointer ≡ 1 → (f : PowerRules) (t : ValueType) (n : ℕ)
    → OfSpan (Volatile k) (span_of (returning (arguments.CallRules.Power f)) (fresh_cursor (arguments.CallRules.Power f)) t n)
unfolding returning fresh_cursor
power-result k gpr fpr one f t n =
    let later : arguments.CallRules = returning (arguments.CallRules.Power f) in
    let first : Named later (fresh_cursor later) = named-fresh later in
    record {
      floats = λ i p. let a = step-registers later (fresh_cursor later) t n (floating i) first p in float-volatile k i (omega arith);
      generals = λ i p. let a = step-registers later (fresh_cursor later) t n (general i) first p in general-volatile k i (omega arith) (λ e. omega arith);
    }

held-result : (c : Convention) (t : ValueType) (n : ℕ) → OfSpan (Volatile (rules c)) (span_of (returning (rules_of c)) (fresh_cursor (rules_of c)) t n)
unfolding returning span_of
held-result Convention.Ppc64 t n = power-result (rules Convention.Ppc64) (omega arith) (omega arith) refl _ t n
held-result Convention.Z t n = z-result (z_class t n) n
held-result Convention.Aix t n = power-result (rules Convention.Aix) (omega arith) (omega arith) refl _ t n
held-result Convention.Ppc64b t n = power-result (rules Convention.Ppc64b) (omega arith) (omega arith) refl _ t n

result-in : (c : Convention) (r : Option ValueType) → All (OfSpan (Volatile (rules c))) (result_spans (result_places_in c r))
unfolding result_of All
result-in c None = tt
result-in c (Some t) = go (hidden_for (rules_of c) t)
  where
    go : (b : Bool)
        → All (OfSpan (Volatile (rules c)))
        (result_spans (pick b (ResultPlaces.Hidden (span_of (rules_of c) (fresh_cursor (rules_of c)) pointer (word_of (rules_of c))))
        (ResultPlaces.Registers (span_of (returning (rules_of c)) (fresh_cursor (rules_of c)) t (size_of c t)))))
    go true = tt
    go false = (held-result c t (size_of c t), tt)

result-of : (x : Reading Signature) → All (OfSpan (Volatile (rules (plan_answer x).convention))) (result_spans (plan_answer x).result)
unfolding plan_answer plan_in All
result-of (got g next n) = result-in g.convention (result_type g.convention g.result)
result-of (no f) = tt

pub result-volatile : (s : List ℕ) → All (Volatile (rules (plan_for s).convention)) (span_registers (result_spans (plan_for s).result))
result-volatile s = in-spans (Volatile (rules (plan_for s).convention)) (result_spans (plan_for s).result) (result-of (signature_of s))

-- ---- a leave

-- what is below the first register that the frame saved stays
restored-volatile : (k : FrameRules) (f : Frame) (at : ℕ) (l : List ℕ) (p : ℕ) (r : Registers) (b : Bank) (n : ℕ) → Volatile k (register b n) → n < first_saved b f
    → held_in (restored k f at l p r) (register b n) ≡ held_in r (register b n)
unfolding restored
restored-volatile k f at l p r Bank.General n v h =
    get_or-set_other (taken r.gpr l (gpr_save k.linkage k f at [])) k.pointer n p 0 (v.other refl) ∙ taken-under (gpr_save k.linkage k f at []) r.gpr l n h
restored-volatile k f at l p r Bank.Floating n v h = taken-under (fpr_save k f at []) r.fpr l n h

least-saved : (k : FrameRules) (f : Frame) → ok_request k f ≡ true → (b : Bank) → (bank_in k b).request.first ≤ first_saved b f
least-saved k f e Bank.General = (ranges k f e).gpr.0
least-saved k f e Bank.Floating = (ranges k f e).fpr.0

pub leave-result : (k : FrameRules) (o : OpenEnter) (os : List OpenEnter) (m : Machine) → Invariant k (o ∷ os) m → answer leave m ≡ Ok tt
    → (x : Register) → Volatile k x → held_in (after leave m).state.registers x ≡ held_in m.state.registers x
unfolding leave_outcome left
leave-result k o os m i e x v =
    let s : State = m.state in
    let f : Frame = top k s in
    let is : f ≡ o.request = top-is k (o ∷ os) m i in
    let low : x.number < first_saved x.bank f = rw is (omega (arith, v.low, least-saved k o.request i.1.request x.bank)) in
    rw (e, i.0.rules)
    (restored-volatile k f (offset k s + frame_size k f) m.memory (stack_pointer k s + frame_size k f) s.registers x.bank x.number v low)
