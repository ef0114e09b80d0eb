-- Thirteen stores are the entry.
use mathlib.Core.Path.{refl}
use native.Mathlib.Omega.{arith}
use lib.ListN.{length-set}
use Rattle.plan_entries.specs.Words.{entry_words}
use Rattle.plan_entries.proofs.Stores.{stored, stored-overlay}
use Rattle.plan_entries.proofs.put_entry.Goals as goal

pub bounds-kept-1 : goal.bounds-kept-1
bounds-kept-1 c = simp length-set (omega arith)

pub bounds-kept-2 : goal.bounds-kept-2
bounds-kept-2 c = simp length-set (omega arith)

pub bounds-kept-3 : goal.bounds-kept-3
bounds-kept-3 c = simp length-set (omega arith)

pub bounds-kept-4 : goal.bounds-kept-4
bounds-kept-4 c = simp length-set (omega arith)

pub bounds-kept-5 : goal.bounds-kept-5
bounds-kept-5 c = simp length-set (omega arith)

pub bounds-kept-6 : goal.bounds-kept-6
bounds-kept-6 c = simp length-set (omega arith)

pub bounds-kept-7 : goal.bounds-kept-7
bounds-kept-7 c = simp length-set (omega arith)

pub bounds-kept-8 : goal.bounds-kept-8
bounds-kept-8 c = simp length-set (omega arith)

pub bounds-kept-9 : goal.bounds-kept-9
bounds-kept-9 c = simp length-set (omega arith)

pub bounds-kept-10 : goal.bounds-kept-10
bounds-kept-10 c = simp length-set (omega arith)

pub bounds-kept-11 : goal.bounds-kept-11
bounds-kept-11 c = simp length-set (omega arith)

pub bounds-kept-12 : goal.bounds-kept-12
bounds-kept-12 c = simp length-set (omega arith)

pub shape_of-kept : goal.shape_of-kept
shape_of-kept c = simp length-set refl

pub returns : goal.returns
unfolding stored entry_words
returns c =
    rw (c.from.ensures, c.from-2.ensures, c.start_word-3.ensures, c.start_word-2.ensures, c.start_word.ensures, c.first_word-2.ensures, c.first_word.ensures)
    (stored-overlay c.args.kept.now (entry_words c.args.item c.args.size c.args.value c.args.s))
