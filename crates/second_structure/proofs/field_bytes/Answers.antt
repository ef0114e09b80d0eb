-- Each part is the definition's.
use Rattle.second_structure.proofs.field_bytes.Goals as goal

pub returns : goal.returns
returns c = rw (c.run_of.ensures, c.bytes_of-2.ensures, c.bytes_of.ensures)
