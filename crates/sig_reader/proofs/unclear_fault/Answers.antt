-- The reader finds the argument, and its place is where the fault is.
use Rattle.sig_items.specs.declared.Refusal.{Refusal}
use Rattle.sig_items.specs.Reading.{fault}
use Rattle.sig_reader.specs.Argument.{item_in}
use Prim.Native.Nat.{ℕ}
use mathlib.Core.Path.{ap, ◌∙◌}
use Rattle.sig_reader.proofs.unclear_fault.Goals as goal

pub returns : goal.returns
returns c = ap (λ (n : ℕ). fault Refusal.UnclearPlace n 0) (c.item_in-place.ensures ∙ ap item_in c.argument_at.ensures)
