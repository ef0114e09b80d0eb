-- What the program's outcome says of the reading, in the surface's words. Assumes nothing.
use Rattle.std.proofs.Common.{Ok, Err, Result}
use Prim.Native.Nat.{ℕ}
use mathlib.Core.Path.{◌≡◌, ap}
use native.Mathlib.Omega.{arith}
use Rattle.sig_items.specs.declared.Fault.{Fault}
use Rattle.sig_items.specs.Reading.{Reading, got, no}
use Rattle.sig_signatures.specs.Signature.{Signature}
use Rattle.sig_signatures.specs.Answer.{signature_answer}
use Rattle.c_answers.specs.declared.Answer.{Answer}
use Rattle.c_faults.specs.Faults.{fault_answer}
use Rattle.c_signatures.specs.Surface.{reading_answer}

module _ (o : Result ℕ Fault) where
  pub accepted-answer : (x : Reading Signature) → o ≡ (signature_answer x).outcome → (n : ℕ) → o ≡ Ok n →
      ◌≡◌ {A = Answer} (record { number = 0; place = 0; items = n }) (reading_answer x)
  unfolding reading_answer
  accepted-answer (got g next k) e n q = let same : n ≡ k = cc in cc
  accepted-answer (no f) e n q = let z : ◌≡◌ {A = ℕ} 0 1 = cc in absurd (omega arith)

  pub refused-answer : (x : Reading Signature) → o ≡ (signature_answer x).outcome → (f : Fault) → o ≡ Err f → fault_answer f ≡ reading_answer x
  unfolding reading_answer
  refused-answer (got g next k) e f q = let z : ◌≡◌ {A = ℕ} 0 1 = cc in absurd (omega arith)
  refused-answer (no g) e f q = let same : f ≡ g = cc in ap fault_answer same
