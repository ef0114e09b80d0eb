-- The bytes are written from the last to the first: at each turn, the i bytes of `rest` over what s then holds give what all n bytes of x over s at
-- entry give.
use Rattle.std.proofs.Common.{◌≡◌}
use Rattle.base_words.specs.Splice.{overlay}
use Rattle.base_words.specs.Numbers.{bytes_of}
use Rattle.base_words.proofs.put_number.Given as goal

abbrev pub invariant-loop-i : goal.invariant-loop-i
invariant-loop-i l = overlay l.s (bytes_of l.i l.rest) ≡ overlay l.initial.s (bytes_of l.n l.x)
