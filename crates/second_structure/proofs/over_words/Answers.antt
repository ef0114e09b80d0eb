-- Each part is the definition's.
use Rattle.second_structure.specs.Structure.{over_words}
use Rattle.second_structure.proofs.over_words.Goals as goal

pub returns : goal.returns
unfolding over_words
returns c = rw (c.run_of-2.ensures, c.bytes_of-2.ensures, c.bytes_of.ensures, c.field_bytes.ensures, c.run_of.ensures, c.saturating_sub-stored.ensures, c.saturating_sub-held.ensures, c.min.ensures, c.max-high.ensures)
