-- The runs' counts say it.
use mathlib.Core.Path.{sym}
use native.Mathlib.Omega.{arith}
use Rattle.base_words.proofs.Tests.{flag-le, flag-pick}
use Rattle.plan_stored_items.specs.Places.{floating_run, general_run, memory_run, copy_run}
use Rattle.plan_stored_items.proofs.Laws.{length-argument}
use borrow.Author.Rules.{rules}
use Rattle.plan_stored_items.proofs.argument_length.Goals as goal

pub words_in-words-requires : goal.words_in-words-requires
words_in-words-requires c = (c.requires.0, c.requires.1.short)

pub overflow_add-result : goal.overflow_add-result
overflow_add-result c = omega (arith, c.requires.1.numbered.0, c.requires.1.numbered.1, c.words_in-words.ensures.1, c.from-copies.ensures, flag-le c.args.s.indirect)

pub overflow_add-result-2 : goal.overflow_add-result-2
overflow_add-result-2 c = omega (arith, c.requires.1.numbered.0, c.requires.1.numbered.1, c.words_in-words.ensures.1, c.from-copies.ensures, flag-le c.args.s.indirect)

pub overflow_add-result-3 : goal.overflow_add-result-3
overflow_add-result-3 c = omega (arith, c.requires.1.numbered.0, c.requires.1.numbered.1, c.words_in-words.ensures.1, c.from-copies.ensures, flag-le c.args.s.indirect)

pub overflow_mul-result : goal.overflow_mul-result
overflow_mul-result c = omega (arith, c.requires.1.numbered.0, c.requires.1.numbered.1, c.words_in-words.ensures.1, c.from-copies.ensures, flag-le c.args.s.indirect)

pub overflow_add-result-4 : goal.overflow_add-result-4
overflow_add-result-4 c = omega (arith, c.requires.1.numbered.0, c.requires.1.numbered.1, c.words_in-words.ensures.1, c.from-copies.ensures, flag-le c.args.s.indirect)

pub returns : goal.returns
unfolding floating_run general_run memory_run copy_run
returns c = (rw (c.words_in-words.ensures.0, c.from-copies.ensures, flag-pick c.args.s.indirect) (sym (length-argument c.args.rules c.args.s)), omega (arith, c.requires.1.numbered.0, c.requires.1.numbered.1, c.words_in-words.ensures.1, c.from-copies.ensures, flag-le c.args.s.indirect))
