-- What is left to copy, copied from here, gives the whole copy. Assumes nothing.
use Rattle.std.proofs.Common.{◌≡◌, ◌+◌, ◌-◌, length}
use Rattle.base_words.specs.Splice.{splice, part}
use Rattle.frame_state_words.proofs.copy.Given as goal

abbrev pub invariant-loop-i : goal.invariant-loop-i
invariant-loop-i l = (splice l.to (l.at + l.i) (part (l.start + l.i) (l.n - l.i) l.from) ≡ splice l.initial.to l.at (part l.start l.n l.from)) × (length l.to ≡ length l.initial.to)
