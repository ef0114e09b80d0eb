-- By what narrowing finds: a single's four bytes, or nothing.
use Rattle.std.proofs.Common.{Option, ℕ}
use mathlib.Core.Path.{sym, ap, ◌∙◌}
use Rattle.base_words.specs.Splice.{overlay}
use Rattle.call_slots.specs.Forms.{narrowed_bytes}
use Rattle.call_unmarshal.proofs.take_narrowed.Goals as goal

pub returns-in-Some : goal.returns-in-Some
returns-in-Some c =
    c.put_number.ensures
    ∙ rw c.from.ensures (ap (λ (q : Option ℕ). overlay c.args.out.now (narrowed_bytes q)) (sym c.in-Some.is ∙ c.narrow.ensures))

pub returns-in_default : goal.returns-in_default
unfolding overlay
returns-in_default c = ap (λ (q : Option ℕ). overlay c.args.out.now (narrowed_bytes q)) (sym c.in_default.is ∙ c.narrow.ensures)
