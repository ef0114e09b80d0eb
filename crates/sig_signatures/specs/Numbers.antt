-- Document 01's number of each answer on a signature and its items: 0 where nothing is refused. Assumes nothing.
use Rattle.sig_signatures.specs.declared.Head.{Head}
use Rattle.sig_signatures.specs.declared.EllipsisItem.{EllipsisItem}
use Rattle.sig_signatures.specs.declared.ResultItem.{ResultItem}
use Rattle.sig_items.specs.declared.Fault.{Fault}
use Rattle.base_conventions.specs.declared.Convention.{Convention}
use Rattle.std.specs.Prelude.{ℕ, Ok, Err, Result}
use Rattle.sig_items.specs.Refusals.{refusal_number}

abbrev pub outcome_number : Result ℕ Fault → ℕ
outcome_number (Ok n) = 0
outcome_number (Err f) = refusal_number f.reason

abbrev pub convention_read_number : Result Convention Fault → ℕ
convention_read_number (Ok c) = 0
convention_read_number (Err f) = refusal_number f.reason

abbrev pub result_read_number : Result ResultItem Fault → ℕ
result_read_number (Ok i) = 0
result_read_number (Err f) = refusal_number f.reason

abbrev pub ellipsis_read_number : Result EllipsisItem Fault → ℕ
ellipsis_read_number (Ok i) = 0
ellipsis_read_number (Err f) = refusal_number f.reason

abbrev pub head_read_number : Result Head Fault → ℕ
head_read_number (Ok h) = 0
head_read_number (Err f) = refusal_number f.reason
