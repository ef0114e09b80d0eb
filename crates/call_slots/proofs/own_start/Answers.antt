-- At the head, or in the last n bytes of the words.
use mathlib.Core.Path.{sym, ◌∙◌}
use Prim.Native.Nat.{◌-◌}
use Rattle.call_slots.specs.Forms.{own_start}
use Rattle.call_slots.proofs.own_start.Goals as goal

pub returns-then-starts_at_head : goal.returns-then-starts_at_head
unfolding own_start
returns-then-starts_at_head c = rw (sym c.starts_at_head.ensures ∙ c.if-starts_at_head.true)

pub returns-else-starts_at_head : goal.returns-else-starts_at_head
unfolding own_start
returns-else-starts_at_head c =
    let h = sym c.starts_at_head.ensures ∙ c.if-starts_at_head.false in
    rw (h, c.requires.0)
