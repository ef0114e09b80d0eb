-- What is left to put, put from here, gives the whole. Assumes nothing.
use Rattle.base_words.specs.Splice.{splice}
use Rattle.frame_word_layout.specs.Words.{record_words, records_at, frames_words}
use Rattle.std.proofs.Common.{◌≡◌, ◌+◌, ◌*◌, length, drop}
use Rattle.frame_state_words.proofs.put_frames.Given as goal

abbrev pub invariant-loop-i : goal.invariant-loop-i
invariant-loop-i l = (splice l.words (records_at + record_words * l.i) (frames_words (drop l.i l.f-items)) ≡ splice l.initial.words 70 (frames_words l.f-items)) × (length l.words ≡ length l.initial.words)
