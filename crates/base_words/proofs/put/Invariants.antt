-- After i turns the first i bytes of bs stand over the head of s.
use Rattle.std.proofs.Common.{◌≡◌, take}
use Rattle.base_words.specs.Splice.{overlay}
use Rattle.base_words.proofs.put.Given as goal

abbrev pub invariant-loop-i : goal.invariant-loop-i
invariant-loop-i l = l.s ≡ overlay l.initial.s (take l.i l.bs)
