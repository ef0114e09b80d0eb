-- A hidden address goes before the first argument.
use Rattle.call_arguments.proofs.first_cursor.Goals as goal

pub returns : goal.returns
returns c = rw (c.start.ensures, c.hidden_in-hidden.ensures)
