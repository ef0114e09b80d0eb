-- By the reading of the item, and then by where it ends. Assumes nothing.
use mathlib.Core.Path.{sym, ◌∙◌}
use Rattle.call_walking.proofs.Items.{item-long, item-after, item_refused, item-whole}
use Rattle.call_walking.proofs.read_type.Goals as goal

pub returns-then-s-gt-MAX_LENGTH : goal.returns-then-s-gt-MAX_LENGTH
returns-then-s-gt-MAX_LENGTH c = item-long c.args.c c.args.s.now c.if-s-gt-MAX_LENGTH.true

pub returns-then-next-s : goal.returns-then-next-s
returns-then-next-s c = item-after c.args.c c.args.s.now _ _ _ c.if-s-gt-MAX_LENGTH.false (sym c.in-Ok.is ∙ c.read_item.ensures) c.if-next-s.true

pub returns-in-Err : goal.returns-in-Err
returns-in-Err c = item_refused c.args.c c.args.s.now c.if-s-gt-MAX_LENGTH.false _ (sym c.in-Err.is ∙ c.read_item.ensures)

pub returns-else-next-s : goal.returns-else-next-s
returns-else-next-s c = item-whole c.args.c c.args.s.now _ _ _ c.if-s-gt-MAX_LENGTH.false (sym c.in-Ok.is ∙ c.read_item.ensures) c.if-next-s.false
