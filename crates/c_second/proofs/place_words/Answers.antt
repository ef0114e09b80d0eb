-- Each word is the definition's.
use Rattle.c_second.proofs.Laws.{flag-is}
use Rattle.c_second.proofs.place_words.Goals as goal

pub returns : goal.returns
returns c = rw (c.from.ensures, flag-is)
