-- A reader's answers have the numbers of what they are found by: a header's body, and the whole reading. Assumes nothing.
use Rattle.sig_items.specs.declared.Refusal.{Refusal}
use Rattle.std.proofs.Common.{Ok, Err, Result}
use Prim.Native.Nat.{ℕ}
use mathlib.Core.Path.{◌≡◌, refl}
use Rattle.sig_items.specs.declared.Fault.{Fault}
use Rattle.sig_items.specs.Reading.{no}
use Rattle.sig_items.specs.Refusals.{body_number, reading_number}
use Rattle.sig_signatures.specs.Signature.{Signature}
use Rattle.sig_stepping.specs.Step.{header_by}
use Rattle.sig_reader.specs.Argument.{argument_of}
use Rattle.sig_reader.specs.Numbers.{header_number, argument_number}

pub header-number : (tag : ℕ) (x : Result ℕ Refusal) → header_number (header_by tag x) ≡ body_number x
header-number tag (Ok b) = refl
header-number tag (Err r) = refl

-- a refused signature's number is that of each of its arguments
pub argument-number : (index : ℕ) (f : Fault) → argument_number (argument_of index (no f)) ≡ reading_number {A = Signature} (no f)
argument-number index f = refl
