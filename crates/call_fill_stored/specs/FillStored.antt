-- 02, No. 7: "Filling from stored bytes and a fresh signature makes this check first, then answers as plain filling". Assumes nothing.
use Rattle.std.specs.Prelude.{ℕ, List, Option, Some, None, Result, Ok, Err}
use Rattle.call_slots.specs.Refusals.{call_answer_number}
use Rattle.call_slots.specs.Buffers.{Buffers}
use Rattle.call_fill.specs.declared.FillLengths.{FillLengths}
use Rattle.call_fill.specs.Fill.{fill_answer, fill_buffers}
use Rattle.sig_items.specs.declared.Fault.{Fault}
use Rattle.plan_stored.specs.Stored.{check_answer, check_number}
use Rattle.call_fill_stored.specs.declared.StoredError.{StoredError}
use Rattle.call_slots.specs.Answer.{CallAnswer, call_unread}

abbrev pub StoredFill : Type 0
StoredFill = Result (Unit {0}) StoredError

-- as plain filling answers; or stored bytes that are stale, with the place of the first difference

abbrev pub filled_plain : CallAnswer → StoredFill
filled_plain (Ok tt) = Ok tt
filled_plain (Err e) = Err (StoredError.Call e)

abbrev pub stale : ℕ → StoredFill
stale place = Err (StoredError.Stale place)

-- by what the check says, and what plain filling does
abbrev pub fill_by : Result (Option ℕ) Fault → CallAnswer → StoredFill
fill_by (Ok None) a = filled_plain a
fill_by (Err f) a = filled_plain (call_unread f)
fill_by (Ok (Some place)) a = stale place

unfoldable pub stored_fill_answer : List ℕ → List ℕ → FillLengths → ℕ → ℕ → StoredFill
stored_fill_answer stored s have base hidden = fill_by (check_answer stored s) (fill_answer s have base hidden)

-- the buffers: as plain filling leaves them, or as they were
abbrev pub buffers_by : Result (Option ℕ) Fault → Buffers → Buffers → Buffers
buffers_by (Ok None) filled b = filled
buffers_by (Err f) filled b = b
buffers_by (Ok (Some place)) filled b = b

unfoldable pub stored_fill_buffers : List ℕ → List ℕ → List ℕ → FillLengths → ℕ → ℕ → Buffers → Buffers
stored_fill_buffers stored s values have base hidden b =
    buffers_by (check_answer stored s) (fill_buffers s values base hidden (fill_answer s have base hidden) b) b

-- the papers' number, 0 for yes
abbrev pub stored_fill_number : StoredFill → ℕ
stored_fill_number (Ok tt) = 0
stored_fill_number (Err (StoredError.Call e)) = call_answer_number (Err e)
stored_fill_number (Err (StoredError.Stale place)) = check_number (Ok (Some place))
