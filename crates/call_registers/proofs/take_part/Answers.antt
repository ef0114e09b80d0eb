-- The part's bytes, put at the head.
use mathlib.Core.Path.{ap, ◌∙◌}
use Prim.Native.Nat.{ℕ}
use native.Mathlib.Nat.{add-sub_cancel_left}
use lib.ListN.{take, drop}
use Rattle.base_words.specs.Splice.{overlay}
use Rattle.call_registers.proofs.take_part.Goals as goal

pub returns : goal.returns
returns c =
    c.put.ensures ∙ ap (λ (z : ℕ). overlay c.args.out.now (take z (drop c.args.at c.args.src.now))) (add-sub_cancel_left c.args.at c.args.n)
