-- Each answer has the number of its reading. Assumes nothing.
use mathlib.Core.Path.{◌≡◌, refl}
use mathlib.Core.Bool.{Bool}
use Rattle.base_conventions.specs.declared.Convention.{Convention}
use Rattle.sig_items.specs.Reading.{Reading, got, no}
use Rattle.sig_items.specs.Refusals.{reading_number}
use Rattle.sig_signatures.specs.Signature.{ResultTree, Signature, HeadTree}
use Rattle.sig_signatures.specs.Answer.{convention_answer, result_answer, ellipsis_answer, head_answer, signature_answer}
use Rattle.sig_signatures.specs.Numbers.{outcome_number, convention_read_number, result_read_number, ellipsis_read_number, head_read_number}

pub outcome-number : (x : Reading Signature) → outcome_number (signature_answer x).outcome ≡ reading_number x
outcome-number (got g next n) = refl
outcome-number (no f) = refl

pub convention-number : (x : Reading Convention) → convention_read_number (convention_answer x) ≡ reading_number x
convention-number (got c next n) = refl
convention-number (no f) = refl

pub result-number : (c : Convention) (x : Reading ResultTree) → result_read_number (result_answer c x) ≡ reading_number x
result-number c (got r next n) = refl
result-number c (no f) = refl

pub ellipsis-number : (x : Reading Bool) → ellipsis_read_number (ellipsis_answer x) ≡ reading_number x
ellipsis-number (got v next n) = refl
ellipsis-number (no f) = refl

pub head-number : (x : Reading HeadTree) → head_read_number (head_answer x) ≡ reading_number x
head-number (got h next n) = refl
head-number (no f) = refl
