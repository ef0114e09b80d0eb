-- Filling from stored bytes is plain filling (specs/Plain.antt states it). Assumes nothing.
use mathlib.Core.Path.{◌≡◌, refl, sym}
use mathlib.Core.List.{List}
use Prim.Native.Nat.{ℕ}
use native.Mathlib.Omega.{arith}
use Rattle.sig_items.specs.declared.Fault.{Fault}
use Rattle.plan_plans.specs.Call.{outcome_for}
use Rattle.call_slots.specs.Refusals.{after_reading}
use Rattle.call_slots.specs.Buffers.{Buffers}
use Rattle.call_fill.specs.declared.FillLengths.{FillLengths}
use Rattle.call_fill.specs.Fill.{fill_answer, fill_buffers}
use Rattle.plan_stored.specs.Stored.{stored_of, compared, check_by, check_answer}
use Rattle.plan_stored.proofs.Theorems.{checks-exactly, refused-check}
use Rattle.call_fill_stored.specs.FillStored.{stored_fill_answer, stored_fill_buffers}
use Rattle.call_fill_stored.specs.Plain.{FillsAsPlain, RefusesAsPlain, StaleFillsNothing}

pub fills-as-plain : FillsAsPlain
unfolding stored_fill_answer stored_fill_buffers
fills-as-plain s values have base hidden b a = let fresh = (checks-exactly (stored_of s) s).all a refl in (rw fresh, rw fresh)

pub refuses-as-plain : RefusesAsPlain
unfolding stored_fill_answer stored_fill_buffers fill_answer fill_buffers
refuses-as-plain stored s values have base hidden b f h = let o = refused-check stored s f h in (rw (h, o), rw (h, o))

pub stale-fills-nothing : StaleFillsNothing
unfolding stored_fill_answer stored_fill_buffers
stale-fills-nothing stored s values have base hidden b place h = (rw h, rw h)
