-- The program's answer has the number of its reading. Assumes nothing.
use mathlib.Core.Path.{◌≡◌, refl}
use Rattle.base_conventions.specs.declared.Convention.{Convention}
use Rattle.sig_types.specs.Trees.{Tree}
use Rattle.sig_items.specs.Reading.{Reading, got, no}
use Rattle.sig_items.specs.Refusals.{reading_number, item_number}
use Rattle.sig_items.specs.Answer.{item_answer}

pub item-number : (c : Convention) (x : Reading Tree) → item_number (item_answer c x) ≡ reading_number x
item-number c (got t next n) = refl
item-number c (no f) = refl
