-- Six stores are a splice. Assumes nothing.
use Rattle.base_words.specs.Basics.{flag}
use Rattle.frame_word_layout.specs.Words.{record_words, records_at, frame_words}
use Rattle.frame_word_layout.proofs.Laws.{six-words}
use lib.ListN.{length-set}
use Prim.Native.Nat.{◌+◌, ◌*◌}
use native.Mathlib.Omega.{arith}
use Rattle.frame_state_words.proofs.put_frame.Goals as goal

pub bounds-words-at-2 : goal.bounds-words-at-2
bounds-words-at-2 c = simp length-set (omega arith)

pub bounds-words-at-3 : goal.bounds-words-at-3
bounds-words-at-3 c = simp length-set (omega arith)

pub bounds-words-at-4 : goal.bounds-words-at-4
bounds-words-at-4 c = simp length-set (omega arith)

pub bounds-words-at-5 : goal.bounds-words-at-5
bounds-words-at-5 c = simp length-set (omega arith)

pub bounds-words-at-6 : goal.bounds-words-at-6
bounds-words-at-6 c = simp length-set (omega arith)

pub returns : goal.returns
unfolding frame_words
returns c =
    rw (c.from-2.ensures, c.from.ensures) (six-words c.args.words.now (records_at + record_words * c.args.i) c.args.f.first_gpr c.args.f.first_fpr (flag c.args.f.saves_cr) c.args.f.locals c.args.f.outgoing (flag c.args.f.leaf))
