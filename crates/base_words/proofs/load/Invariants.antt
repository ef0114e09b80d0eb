-- After i turns the value is that of the first i bytes, and fits them.
use Rattle.std.proofs.Common.{◌≡◌, ◌*◌, ◌^◌, ◌<◌, take}
use Rattle.base_words.specs.Numbers.{value_of}
use Rattle.base_words.proofs.load.Given as goal

abbrev pub invariant-loop-b : goal.invariant-loop-b
invariant-loop-b l = (l.value ≡ value_of (take l.b-index l.b-items)) × (l.value < 2 ^ (8 * l.b-index))
