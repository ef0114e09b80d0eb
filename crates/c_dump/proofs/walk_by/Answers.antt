-- By the walk of dump, with the convention's rules.
use Rattle.frame_rules.proofs.Conventions.{lawful}
use Rattle.c_dump.specs.Dump.{walked_answer}
use mathlib.Core.Path.{ap, ◌∙◌}
use Rattle.c_dump.proofs.walk_by.Goals as goal

pub walk-requires : goal.walk-requires
walk-requires c = rw c.frame_rules_of-k.ensures (lawful c.args.c)

pub returns : goal.returns
returns c = record {
  value = c.walked_of.ensures ∙ ap walked_answer (rw c.frame_rules_of-k.ensures at c.walk.ensures.value);
  list_after = rw c.frame_rules_of-k.ensures at c.walk.ensures.list_after;
}
