-- The answer and the value buffer of a whole reading, from those of its parts. Assumes nothing.
use mathlib.Core.Path.{◌≡◌, refl, sym, ap, ap₂, ◌∙◌, subst}
use mathlib.Core.Bool.{Bool, true, false}
use mathlib.Core.List.{List, []}
use Prim.Native.Nat.{ℕ, ◌≤◌}
use native.Mathlib.Omega.{arith}
use borrow.Author.Tests.{ltb-false}
use Rattle.base_words.specs.Basics.{pick, All}
use Rattle.base_words.specs.Splice.{overlay}
use Rattle.base_words.proofs.Splices.{overlay-nothing}
use Rattle.base_words.proofs.Each.{each-with}
use Rattle.base_conventions.specs.declared.Convention.{Convention}
use Rattle.plan_plans.specs.declared.Plan.{Plan}
use Rattle.plan_plans.specs.declared.Measured.{Measured}
use Rattle.plan_plans.specs.Plan.{plan_answer}
use Rattle.plan_plans.specs.Call.{called, outcome_for}
use Rattle.sig_items.specs.declared.Fault.{Fault}
use Rattle.sig_items.specs.Reading.{Reading, no}
use Rattle.sig_signatures.specs.Signature.{Signature}
use Rattle.sig_signatures.specs.Read.{signature_of}
use Rattle.call_slots.specs.Buffers.{Buffers}
use Rattle.plan_places.specs.declared.CallRules.{CallRules}
use Rattle.call_slots.specs.Placements.{Placement, values_at}
use Rattle.call_slots.specs.Helpers.{Held, Fits, sizes_of}
use Rattle.call_slots.specs.Refusals.{first_of, after_reading, or_else, first_of_all}
use Rattle.call_slots.specs.Arguments.{arguments_of, plan_for, rules_for, sizes_for}
use Rattle.call_slots.proofs.Answered.{carried}
use Rattle.call_kept.specs.Helpers.{kept_all, KeptEach}
use Rattle.call_arguments.specs.Helpers.{KeptOf}
use Rattle.call_slots.proofs.Planned.{in_image_lem}
use Rattle.call_slots.proofs.Refusals.{first_done, differ-false, or-refused, not-refused}
use Rattle.call_unmarshal.specs.Helpers.{InBuffers}
use Rattle.call_read.specs.declared.ReadLengths.{ReadLengths}
use Rattle.call_read.specs.Read.{arguments_answer, read_tests, read_answer, read_values}
use Rattle.call_read.specs.Helpers.{lengths_answer}
use Rattle.call_read.proofs.Arguments.{or-done-right}
use Rattle.std.proofs.Common.{Ok, Err, is_ok, is_err}
use Rattle.call_slots.specs.Answer.{CallAnswer, call_done, call_unread}

-- ---- what no test refuses
pub record Lent (have : ReadLengths) (p : Plan) : Type 0 where
  pub image : have.image ≡ 512
  pub values : have.values ≡ p.values
  pub area : p.area ≤ have.area

pub tests-passed : (have : ReadLengths) (p : Plan) → first_of (read_tests have p.values p.area) ≡ call_done → Lent have p
unfolding read_tests
tests-passed have p e =
    let a = first_done _ _ e in
    let b = first_done _ _ a.1 in
    let c = first_done _ _ b.1 in
    record {
      image = differ-false have.image 512 a.0;
      values = differ-false have.values p.values b.0;
      area = ltb-false have.area p.area c.0;
    }

-- the same of sizes m that were measured
pub tests-lent : (s : List ℕ) (have : ReadLengths) (m : Measured) → m ≡ sizes_for s
    → first_of (read_tests have m.values m.area) ≡ call_done → Lent have (plan_for s)
tests-lent s have m p e = tests-passed have (plan_for s) (rw p at e)

-- each argument is then one that the first pass can look at, by the signature's rules r
pub each-ready : (s : List ℕ) (r : CallRules) (i a : ℕ) → r ≡ rules_for s → i ≡ 512 → (plan_for s).area ≤ a → All (InBuffers r i a) (arguments_of s)
unfolding arguments_of
each-ready s r i a same image area =
    let h = carried s in
    each-with (Held r) (Fits (plan_for s).area (plan_for s).copies) (InBuffers r i a) ready (arguments_of s)
    (subst (λ (x : CallRules). All (Held x) (arguments_of s)) (sym same) h.held) h.fit
  where
    ready : (q : Placement) → Held r q → Fits (plan_for s).area (plan_for s).copies q → InBuffers r i a q
    ready q x y = record { registers = in_image_lem r i (plan_for s).area (plan_for s).copies q x y image; memory = λ _. omega (arith, y.memory) }

-- and so is each that is kept
pub all-ready : (s : List ℕ) (r : CallRules) (i a : ℕ) → r ≡ rules_for s → i ≡ 512 → (plan_for s).area ≤ a
    → (c : Convention) (l : List ℕ) (n : ℕ) → KeptOf s c l n → KeptEach (InBuffers r i a) c l n
all-ready s r i a same image area c l n kept = record { room = kept.room; each = rw kept.same (each-ready s r i a same image area) }

-- their sizes are those of the values
pub all-sizes : (s : List ℕ) (c : Convention) (l : List ℕ) (n : ℕ) → KeptOf s c l n → sizes_of (kept_all c l n) ≡ (plan_for s).values
unfolding arguments_of
all-sizes s c l n kept = ap sizes_of kept.same ∙ (carried s).total

-- ---- the answer

pub answer-unread : (s : List ℕ) (have : ReadLengths) (base : ℕ) (b : Buffers) (f : Fault) → signature_of s ≡ no f → call_unread f ≡ read_answer s have base b
unfolding read_answer called plan_answer
answer-unread s have base b f q = let o : outcome_for s ≡ Err f = ap (λ (x : Reading Signature). (plan_answer (called x)).outcome) q in rw o

module _ (s : List ℕ) (have : ReadLengths) (base : ℕ) (b : Buffers) (m : Measured) (p : m ≡ sizes_for s) where
  pub answer-refused : (f : Fault) → m.outcome ≡ Err f → call_unread f ≡ read_answer s have base b
  unfolding read_answer
  answer-refused f e = rw (rw p at e)

  -- of a call that is accepted, by its rules and its arguments
  module _ (n : ℕ) (e : m.outcome ≡ Ok n) (r : CallRules) (same : r ≡ rules_for s) (ps : List Placement) (all : ps ≡ arguments_of s) where
    -- of the lengths l and the arguments a
    whole : (l a : CallAnswer) → l ≡ first_of (read_tests have m.values m.area) → a ≡ arguments_answer r base ps b → or_else l a ≡ read_answer s have base b
    unfolding read_answer
    whole l a x y = rw (rw p at e, ← same, ← all) (ap₂ or_else (rw p at x) y)

    pub answer-lengths : (l : CallAnswer) → l ≡ first_of (read_tests have m.values m.area) → is_err l ≡ true → l ≡ read_answer s have base b
    answer-lengths l x t = sym (or-refused l _ t) ∙ whole l (arguments_answer r base ps b) x refl

    pub answer-arguments : (l a : CallAnswer) → l ≡ first_of (read_tests have m.values m.area) → is_err l ≡ false → a ≡ arguments_answer r base ps b
        → a ≡ read_answer s have base b
    answer-arguments l a x t y = ap (λ (z : CallAnswer). or_else z a) (sym (not-refused l t)) ∙ whole l a x y

-- of a call without arguments
module _ (s : List ℕ) (have : ReadLengths) (m : Measured) (p : m ≡ sizes_for s) where
  pub lengths-refused : (f : Fault) → m.outcome ≡ Err f → call_unread f ≡ lengths_answer s have
  lengths-refused f e = rw (rw p at e)

  pub lengths-tested : (n : ℕ) → m.outcome ≡ Ok n → (l : CallAnswer) → l ≡ first_of (read_tests have m.values m.area) → l ≡ lengths_answer s have
  lengths-tested n e l x = rw (rw p at e) (rw p at x)

module _ (s : List ℕ) (none : arguments_of s ≡ []) (base : ℕ) (b : Buffers) where
  pub answer-none : (have : ReadLengths) (a : CallAnswer) → a ≡ lengths_answer s have → a ≡ read_answer s have base b
  unfolding read_answer arguments_answer first_of_all
  answer-none have a x = x ∙ rw none (ap (after_reading (outcome_for s)) (sym (or-done-right (first_of (read_tests have (plan_for s).values (plan_for s).area)))))

  pub values-none : (a : CallAnswer) (values : List ℕ) → values ≡ read_values s base a b values
  unfolding read_values values_at
  values-none a values = rw none (go (is_ok a))
    where
      go : (d : Bool) → values ≡ pick d (overlay values []) values
      go true = overlay-nothing values
      go false = refl

-- ---- the value buffer

pub values-kept : (s : List ℕ) (base : ℕ) (a : CallAnswer) (b : Buffers) (values : List ℕ) → is_err a ≡ true → values ≡ read_values s base a b values
unfolding read_values
values-kept s base (Ok tt) b values e = let z : ◌≡◌ {A = ℕ} 0 1 = cc in absurd (omega arith)
values-kept s base (Err x) b values e = refl

pub values-taken : (s : List ℕ) (base : ℕ) (b : Buffers) (values last : List ℕ) (r : CallRules) (ps : List Placement) → r ≡ rules_for s → ps ≡ arguments_of s
    → last ≡ overlay values (values_at r base ps b) → last ≡ read_values s base call_done b values
unfolding read_values
values-taken s base b values last r ps same all e = rw (← same, ← all) e
