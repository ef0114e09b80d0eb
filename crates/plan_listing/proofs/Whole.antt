-- An accepted call's plan is that of its reading, and so the text of a call needs no plan of one that is refused. Assumes nothing.
use Rattle.std.proofs.Common.{◌≡◌, ℕ, zero, suc, List, Result, Ok, Err, refl, ap, arith}
use Rattle.sig_items.specs.declared.Fault.{Fault}
use Rattle.sig_signatures.specs.declared.SignatureRead.{SignatureRead}
use Rattle.sig_signatures.specs.Answer.{signature_answer}
use Rattle.sig_signatures.specs.Read.{signature_of}
use Rattle.plan_plans.specs.Plan.{plan_answer}
use Rattle.plan_plans.specs.Call.{call_of, outcome_for}
use Rattle.plan_plans.specs.Helpers.{planned, unclear_of}
use Rattle.plan_plans.proofs.Calls.{clear-plan, unclear-outcome}
use Rattle.plan_listing.specs.Text.{accepted_text, plan_text_by, plan_text_of, listing_of}

module _ (s : List ℕ) (g : SignatureRead) (e : g ≡ signature_answer (signature_of s)) where
  pub accepted-plan : (n : ℕ) → outcome_for s ≡ Ok n → planned g ≡ plan_answer (call_of s)
  accepted-plan n o = go (unclear_of g) refl
    where
      go : (u : ℕ) → unclear_of g ≡ u → planned g ≡ plan_answer (call_of s)
      go zero q = clear-plan (signature_of s) g e q
      go (suc i) q =
          let r = unclear-outcome (signature_of s) g i e q in
          let z : ◌≡◌ {A = ℕ} 0 1 = cc in
          absurd (omega arith)

  pub text-is : plan_text_by (outcome_for s) (planned g) ≡ listing_of s
  unfolding listing_of plan_text_of
  text-is = go (outcome_for s) refl
    where
      go : (o : Result ℕ Fault) → outcome_for s ≡ o → plan_text_by o (planned g) ≡ plan_text_by o (plan_answer (call_of s))
      go (Ok n) q = ap accepted_text (accepted-plan n q)
      go (Err f) q = refl
