-- By the family of conventions.
use mathlib.Core.Path.{◌∙◌}
use Rattle.base_words.proofs.Tests.{flag-le}
use Rattle.call_walker.specs.Walker.{possible}
use Rattle.call_walker_words.proofs.Marks.{flag-word}
use Rattle.call_walker_words.proofs.is_possible.Goals as goal

pub power_possible-requires : goal.power_possible-requires
power_possible-requires c = rw (c.from-h.ensures ∙ flag-word c.args.hidden) (flag-le c.args.hidden)

pub z_possible-requires : goal.z_possible-requires
z_possible-requires c = rw (c.from-h.ensures ∙ flag-word c.args.hidden) (flag-le c.args.hidden)

pub returns-in-Power : goal.returns-in-Power
unfolding possible
returns-in-Power c = c.power_possible.ensures ∙ rw (c.from-h.ensures ∙ flag-word c.args.hidden, c.in-Power.is)

pub returns-in-Z : goal.returns-in-Z
unfolding possible
returns-in-Z c = c.z_possible.ensures ∙ rw (c.from-h.ensures ∙ flag-word c.args.hidden, c.in-Z.is)
