-- A word a turn: the table has the first i words that are kept at its head.
use mathlib.Core.Path.{◌≡◌}
use lib.ListN.{take}
use Rattle.base_words.specs.Splice.{overlay}
use Rattle.plan_entries.proofs.write_table.Given as goal

abbrev pub invariant-loop-i : goal.invariant-loop-i
invariant-loop-i l = l.table ≡ overlay l.initial.table (take l.i (take l.n l.kept))
