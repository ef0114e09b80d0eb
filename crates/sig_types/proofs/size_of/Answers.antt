-- By cases on the type.
use mathlib.Core.Path.{sym, ap, ◌∙◌}
use Rattle.sig_types.specs.Sizes.{size_of}
use Rattle.sig_types.proofs.size_of.Goals as goal

pub returns-in-Integer : goal.returns-in-Integer
returns-in-Integer c = c.integer_size.ensures ∙ sym (ap (size_of _) c.in-Integer.is)
