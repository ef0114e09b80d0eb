-- The definition's product.
use Rattle.second_structure.specs.Structure.{area_bytes}
use Rattle.second_structure.proofs.area_bytes.Goals as goal

pub returns : goal.returns
unfolding area_bytes
returns c = rw (c.bytes_of.ensures, c.max.ensures)
