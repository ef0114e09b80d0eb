-- The words in memory are the last of the argument's, so that all its parts lie within its home.
use Rattle.base_words.proofs.Basics.{words-split}
use native.Mathlib.Omega.{arith}
use Rattle.plan_power_step.proofs.place.Goals as goal

pub overflow_mul-word-2 : goal.overflow_mul-word-2
overflow_mul-word-2 c = omega (arith, words-split c.args.word c.args.a.share.memory c.args.a.count (omega arith))

pub overflow_add-c : goal.overflow_add-c
overflow_add-c c = omega (arith, words-split c.args.word c.args.a.share.memory c.args.a.count (omega arith))

pub overflow_mul-word-3 : goal.overflow_mul-word-3
overflow_mul-word-3 c = omega (arith, words-split c.args.word c.args.a.share.memory c.args.a.count (omega arith))

pub byte_range-requires-2 : goal.byte_range-requires-2
byte_range-requires-2 c = omega (arith, words-split c.args.word c.args.a.share.memory c.args.a.count (omega arith))

pub returns : goal.returns
returns c = rw (c.next_of.ensures, c.byte_range-3.ensures, c.byte_range-2.ensures, c.byte_range.ensures, c.register_range-2.ensures, c.register_range.ensures)
