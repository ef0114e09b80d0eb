-- The words of the exported functions' answers. Assumes nothing.
use Rattle.std.specs.Prelude.{Option, Some, None, ℕ, ◌+◌, ◌*◌}
use Rattle.sig_items.specs.Reading.{Reading, got, no}
use Rattle.sig_signatures.specs.Signature.{Signature}
use Rattle.c_answers.specs.declared.Answer.{Answer}
use Rattle.c_faults.specs.Faults.{fault_answer}
use Rattle.c_signatures.specs.declared.NarrowingAnswer.{NarrowingAnswer}

-- "An accepted reading reports its count of items", a refused one the headers that had passed; number 0 says yes
unfoldable pub reading_answer : Reading Signature → Answer
reading_answer (got g next n) = record { number = 0; place = 0; items = n }
reading_answer (no f) = fault_answer f

-- 14: "a single's PPC64 FPR that is no widened single"
unfoldable pub narrowing_answer : Option ℕ → NarrowingAnswer
narrowing_answer (Some x) = record { number = 0; place = 0; bits = x }
narrowing_answer None = record { number = 14; place = 0; bits = 0 }

-- a version as one number, from its major number, its minor one and its patch, and this library's; the form is ours
abbrev pub version_number : ℕ → ℕ → ℕ → ℕ
version_number major minor patch = 10000 * major + 100 * minor + patch

abbrev pub version : ℕ
version = version_number 1 0 0
