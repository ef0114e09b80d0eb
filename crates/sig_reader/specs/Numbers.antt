-- Document 01's number of each answer of a reader: 0 where nothing is refused. Assumes nothing.
use Rattle.sig_reader.specs.declared.ArgumentItem.{ArgumentItem}
use Rattle.sig_items.specs.declared.Refusal.{Refusal}
use Rattle.sig_items.specs.declared.Fault.{Fault}
use Rattle.std.specs.Prelude.{ℕ, Ok, Err, Result, Some, None, Option}
use Rattle.sig_items.specs.Refusals.{refusal_number}
use Rattle.sig_stepping.specs.declared.Header.{Header}

abbrev pub header_number : Result Header Refusal → ℕ
header_number (Ok h) = 0
header_number (Err r) = refusal_number r

-- 24: "an argument that isn't there"
abbrev pub argument_number : Result (Option ArgumentItem) Fault → ℕ
argument_number (Ok (Some a)) = 0
argument_number (Ok None) = 24
argument_number (Err f) = refusal_number f.reason
