-- Document 02, No. 3: "A driver grew one argument." A caller that fills by the longer signature and a driver that still reads by the shorter one:
-- the driver finds its values. proofs/Driver.antt proves it. Assumes nothing.
use Rattle.std.specs.Prelude.{ℕ, ◌≡◌, List, ◌++◌, length}
use Rattle.call_slots.specs.Arguments.{plan_for}
use Rattle.call_roundtrip.specs.RoundTrip.{Filled, left_by_fill, ReadBack}
use Rattle.call_appending.specs.Appending.{Appended}

-- for all inputs that fill accepts by the longer signature: reading by the shorter one what fill left accepts, and gives the values of its
-- arguments, which are the first ones
abbrev pub OldDriverReads : Type 0
OldDriverReads = (s u values more image area copies into : List ℕ) (base hidden : ℕ) → Appended s u
    → Filled u (values ++ more) image area copies base hidden → length values ≡ (plan_for s).values → length into ≡ length values
    → ReadBack s values base (left_by_fill u (values ++ more) image area copies base hidden) into
