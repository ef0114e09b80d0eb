-- Of a convention the word alone matters, and there are two.
use mathlib.Core.Path.{sym, ◌∙◌}
use Rattle.sig_types.proofs.Laws.{wide_word}
use Rattle.sig_types.proofs.integer_size.Goals as goal

pub returns-then-word_bytes-eq-AIX_WORD : goal.returns-then-word_bytes-eq-AIX_WORD
returns-then-word_bytes-eq-AIX_WORD c = c.size_with.ensures c.args.c (sym c.word_bytes.ensures ∙ c.if-word_bytes-eq-AIX_WORD.true)

pub returns : goal.returns
returns c = c.size_with-2.ensures c.args.c (wide_word c.args.c (λ e. c.if-word_bytes-eq-AIX_WORD.false (c.word_bytes.ensures ∙ e)))
