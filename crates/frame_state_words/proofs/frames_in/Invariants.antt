-- The records before the index are read. Assumes nothing.
use Rattle.frame_word_layout.specs.Words.{frames_in}
use Rattle.std.proofs.Common.{◌≡◌, take, length}
use Rattle.frame_state_words.proofs.frames_in.Given as goal

abbrev pub invariant-loop-i : goal.invariant-loop-i
invariant-loop-i l = (take l.i l.f-items ≡ frames_in l.i l.words 0) × (length l.f-items ≡ 32)
