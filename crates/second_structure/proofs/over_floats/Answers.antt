-- Each part is the definition's.
use Rattle.second_structure.specs.Structure.{over_floats}
use Rattle.second_structure.proofs.over_floats.Goals as goal

pub returns : goal.returns
unfolding over_floats
returns c = rw c.field_bytes.ensures
