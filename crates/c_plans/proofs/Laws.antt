-- What the measured sizes say of the plan, in the surface's words. Assumes nothing.
use Rattle.std.proofs.Common.{Ok, Err}
use Prim.Native.Nat.{ℕ}
use mathlib.Core.Path.{◌≡◌, ap, ◌∙◌}
use native.Mathlib.Omega.{arith}
use Rattle.base_words.specs.Basics.{flag}
use Rattle.sig_items.specs.declared.Fault.{Fault}
use Rattle.sig_items.specs.Reading.{Reading, got, no}
use Rattle.sig_signatures.specs.Signature.{Signature}
use Rattle.plan_plans.specs.declared.Measured.{Measured}
use Rattle.plan_plans.specs.Plan.{plan_in, plan_answer, measure_of}
use Rattle.base_conventions.specs.Numbers.{code_of}
use Rattle.plan_words.specs.declared.Planned.{Planned}
use Rattle.plan_words.specs.Planned.{planned_of}
use Rattle.c_answers.specs.declared.Answer.{Answer}
use Rattle.c_answers.specs.Answers.{yes}
use Rattle.c_faults.specs.Faults.{fault_answer}
use Rattle.c_plans.specs.declared.Sizes.{Sizes}
use Rattle.c_plans.specs.declared.PlanAnswer.{PlanAnswer}
use Rattle.c_plans.specs.Plans.{sizes_answer, planned_answer}

module _ (m : Measured) where
  pub accepted-sizes : (x : Reading Signature) → m ≡ measure_of (plan_answer x) → (n : ℕ) → m.outcome ≡ Ok n →
      ◌≡◌ {A = Sizes} (record { answer = yes; values = m.values; area = m.area; copies = m.copies }) (sizes_answer x)
  unfolding sizes_answer plan_answer
  accepted-sizes (got g next k) e n q = ap (λ (y : Measured). record { answer = yes; values = y.values; area = y.area; copies = y.copies }) e
  accepted-sizes (no f) e n q = let z : ◌≡◌ {A = ℕ} 0 1 = cc (ap (λ (y : Measured). y.outcome) e) in absurd (omega arith)

  pub refused-sizes : (x : Reading Signature) → m ≡ measure_of (plan_answer x) → (f : Fault) → m.outcome ≡ Err f → (a : Answer) → a ≡ fault_answer f →
      ◌≡◌ {A = Sizes} (record { answer = a; values = 0; area = 0; copies = 0 }) (sizes_answer x)
  unfolding sizes_answer plan_answer plan_in
  refused-sizes (got g next k) e f q a is = let z : ◌≡◌ {A = ℕ} 0 1 = cc (ap (λ (y : Measured). y.outcome) e) in absurd (omega arith)
  refused-sizes (no g) e f q a is =
      let same : f ≡ g = cc (ap (λ (y : Measured). y.outcome) e) in
      let words : a ≡ fault_answer g = is ∙ ap fault_answer same in
      cc

-- the same of a plan

module _ (m : Planned) where
  pub accepted-plan : (x : Reading Signature) → m ≡ planned_of (plan_answer x) → (n : ℕ) → m.outcome ≡ Ok n →
      (code : ℕ) → code ≡ code_of m.convention → (mark : ℕ) → mark ≡ flag m.ellipsis →
      ◌≡◌ {A = PlanAnswer}
      (record {
        answer = yes;
        convention = code;
        ellipsis = mark;
        arguments = m.count;
        values = m.values;
        area = m.area;
        copies = m.copies;
        result = m.result.kind;
        result_gpr = m.result.gpr;
        result_gprs = m.result.gprs;
        result_fpr = m.result.fpr;
        result_fprs = m.result.fprs;
      })
      (planned_answer x)
  unfolding planned_answer plan_answer plan_in
  accepted-plan (got g next k) e n q code is mark same = rw (is, same, e)
  accepted-plan (no f) e n q code is mark same = let z : ◌≡◌ {A = ℕ} 0 1 = cc (ap (λ (y : Planned). y.outcome) e) in absurd (omega arith)

  pub refused-plan : (x : Reading Signature) → m ≡ planned_of (plan_answer x) → (f : Fault) → m.outcome ≡ Err f → (a : Answer) → a ≡ fault_answer f →
      ◌≡◌ {A = PlanAnswer}
      (record {
        answer = a;
        convention = 0;
        ellipsis = 0;
        arguments = 0;
        values = 0;
        area = 0;
        copies = 0;
        result = 0;
        result_gpr = 0;
        result_gprs = 0;
        result_fpr = 0;
        result_fprs = 0;
      })
      (planned_answer x)
  unfolding planned_answer plan_answer plan_in
  refused-plan (got g next k) e f q a is = let z : ◌≡◌ {A = ℕ} 0 1 = cc (ap (λ (y : Planned). y.outcome) e) in absurd (omega arith)
  refused-plan (no g) e f q a is = let same : f ≡ g = cc (ap (λ (y : Planned). y.outcome) e) in rw (is, same)
