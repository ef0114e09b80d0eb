-- What is proved of filling from stored bytes, besides its answer: it is plain filling, answer and every byte, but where the stored bytes are stale.
-- proofs/Theorems.antt proves it. Assumes nothing.
use Rattle.std.specs.Prelude.{ℕ, ◌≡◌, List, Some, Ok, Err}
use Rattle.sig_items.specs.declared.Fault.{Fault}
use Rattle.call_slots.specs.Buffers.{Buffers}
use Rattle.call_fill.specs.declared.FillLengths.{FillLengths}
use Rattle.call_fill.specs.Fill.{fill_answer, fill_buffers}
use Rattle.plan_stored.specs.Stored.{stored_of, check_answer}
use Rattle.plan_stored.specs.Exact.{Accepts}
use Rattle.call_fill_stored.specs.FillStored.{filled_plain, stale, stored_fill_answer, stored_fill_buffers}

-- the same answer and the same bytes as plain filling
abbrev pub AsPlain : List ℕ → List ℕ → List ℕ → FillLengths → ℕ → ℕ → Buffers → Type 0
AsPlain stored s values have base hidden b =
    (stored_fill_answer stored s have base hidden ≡ filled_plain (fill_answer s have base hidden))
    × (stored_fill_buffers stored s values have base hidden b ≡ fill_buffers s values base hidden (fill_answer s have base hidden) b)

-- what the writer gave for this signature, whatever the buffers
abbrev pub FillsAsPlain : Type 0
FillsAsPlain = (s values : List ℕ) (have : FillLengths) (base hidden : ℕ) (b : Buffers) → Accepts s → AsPlain (stored_of s) s values have base hidden b

-- a signature that is refused: whatever is stored
abbrev pub RefusesAsPlain : Type 0
RefusesAsPlain = (stored s values : List ℕ) (have : FillLengths) (base hidden : ℕ) (b : Buffers) (f : Fault) → check_answer stored s ≡ Err f
    → AsPlain stored s values have base hidden b

-- stale bytes: 27 before all that filling tests, and no byte changes
abbrev pub StaleFillsNothing : Type 0
StaleFillsNothing = (stored s values : List ℕ) (have : FillLengths) (base hidden : ℕ) (b : Buffers) (place : ℕ) → check_answer stored s ≡ Ok (Some place)
    → (stored_fill_answer stored s have base hidden ≡ stale place) × (stored_fill_buffers stored s values have base hidden b ≡ b)
