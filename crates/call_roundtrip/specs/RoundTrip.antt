-- Demand 2's round trip: what fill accepts and leaves, read with the same signature and copy base accepts, and gives the values back,
-- all of them, struct padding included; and the hidden address stands in its register. proofs/Theorems.antt and proofs/HiddenAddress.antt
-- prove it. Assumes nothing.
use Rattle.std.specs.Prelude.{ℕ, ◌^◌, ◌<◌, ◌≡◌, List, length}
use Rattle.base_words.specs.Numbers.{Bytes, bytes_of}
use Rattle.plan_places.specs.declared.Span.{Span}
use Rattle.plan_places.specs.declared.ResultPlaces.{ResultPlaces}
use Rattle.plan_places.specs.Spots.{general}
use Rattle.call_slots.specs.Buffers.{Buffers, buffers, bytes_at}
use Rattle.call_slots.specs.Arguments.{plan_for}
use Rattle.call_fill.specs.Fill.{fill_lengths, fill_answer, fill_buffers}
use Rattle.call_read.specs.Read.{read_lengths, read_answer, read_values}
use Rattle.call_slots.specs.Answer.{call_done}

-- an accepted filling: the signature s, the values, the lent buffers, the copy base and the hidden address
pub record Filled (s values image area copies : List ℕ) (base hidden : ℕ) : Type 0 where
  pub bytes : Bytes values
  pub low : base < 2 ^ 64
  pub accepted : fill_answer s (fill_lengths values image area copies) base hidden ≡ call_done

-- the buffers that it leaves
abbrev pub left_by_fill : List ℕ → List ℕ → List ℕ → List ℕ → List ℕ → ℕ → ℕ → Buffers
left_by_fill s values image area copies base hidden = fill_buffers s values base hidden call_done (buffers image area copies)

-- reading them into a value buffer `into`
pub record ReadBack (s values : List ℕ) (base : ℕ) (b : Buffers) (into : List ℕ) : Type 0 where
  pub accepted : read_answer s (read_lengths into b.image b.area) base b ≡ call_done
  pub same : read_values s base call_done b into ≡ values

-- THE ROUND TRIP: for all inputs that fill accepts, read with the same signature and copy base on what fill left accepts, into a value
-- buffer of the values' length, and gives the values back
abbrev pub ReadAfterFill : Type 0
ReadAfterFill = (s values image area copies into : List ℕ) (base hidden : ℕ) → Filled s values image area copies base hidden
    → length into ≡ length values → ReadBack s values base (left_by_fill s values image area copies base hidden) into

-- "its address is then a hidden first argument in r3", on Z "in r2": after filling it stands there, whatever the arguments are
abbrev pub HiddenStands : Type 0
HiddenStands = (s values image area copies : List ℕ) (base hidden : ℕ) (x : Span) → Filled s values image area copies base hidden
    → (plan_for s).result ≡ ResultPlaces.Hidden x → bytes_at (general x.general.first) 8 (left_by_fill s values image area copies base hidden) ≡ bytes_of 8 hidden
