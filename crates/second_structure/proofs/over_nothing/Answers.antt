-- Each part is the definition's.
use Rattle.second_structure.specs.Structure.{over_nothing}
use Rattle.second_structure.proofs.over_nothing.Goals as goal

pub returns : goal.returns
unfolding over_nothing
returns c = rw c.field_bytes-field.ensures
