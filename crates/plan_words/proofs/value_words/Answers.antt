-- By the type: each way has its law.
use mathlib.Core.Path.{sym, ◌∙◌}
use mathlib.Core.Logic.{inl, inr}
use Rattle.base_conventions.specs.Numbers.{word_bytes}
use Rattle.sig_types.specs.Sizes.{integer_size}
use Rattle.plan_words.proofs.Returned.{single-result, double-result, long-power, long-z, struct-result, integer-result}
use Rattle.plan_words.proofs.value_words.Goals as goal

pub returns-in-Integer : goal.returns-in-Integer
returns-in-Integer c = rw (c.in-Integer.is, c.integer_words-gprs.ensures, c.integer_size.ensures, c.word_bytes.ensures, c.cursor_of-k.ensures) (integer-result c.args.c c.in-Integer.i)

pub returns-in-Single : goal.returns-in-Single
returns-in-Single c = elim c.in-Single.is [
  | inl e ↦ rw (c.in-Float.is, e, c.cursor_of-k.ensures) (single-result _ _)
  | inr e ↦ rw (c.in-Float.is, e, c.cursor_of-k.ensures) (double-result _ _)
]

pub returns-in-Power : goal.returns-in-Power
returns-in-Power c =
    let e = sym c.call_rules_of.ensures ∙ c.in-Power.is in
    rw (c.in-Float.is, c.in-LongDouble.is, c.cursor_of-k.ensures, e) (long-power _ _)

pub returns-in-Z : goal.returns-in-Z
returns-in-Z c =
    let e = sym c.call_rules_of.ensures ∙ c.in-Z.is in
    rw (c.in-Float.is, c.in-LongDouble.is, c.cursor_of-k.ensures, e) (long-z _)

pub returns-in-Struct : goal.returns-in-Struct
returns-in-Struct c = rw (c.in-Struct.is, c.cursor_of-k.ensures) (struct-result c.args.c _ _)
