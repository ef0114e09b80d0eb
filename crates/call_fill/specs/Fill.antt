-- Filling: its answer, and what the buffers hold afterwards. Document 01, "When the bridge says no" and "What stands in a slot".
-- Assumes nothing.
use Rattle.std.specs.Prelude.{ℕ, ◌+◌, ◌-◌, ◌*◌, ◌%◌, ◌^◌, Bool, true, false, List, [], ◌∷◌, ◌++◌, eqb, ltb, length, is_ok}
use Rattle.base_words.specs.Basics.{pick}
use Rattle.plan_places.specs.declared.ResultPlaces.{ResultPlaces}
use Rattle.plan_places.specs.Step.{word_of}
use Rattle.plan_places.specs.Spots.{image_bytes}
use Rattle.call_slots.specs.declared.CallRefusal.{CallRefusal}
use Rattle.call_slots.specs.Buffers.{Buffers, Slot, put_all}
use Rattle.call_slots.specs.Placements.{slots_of_all, hidden_slots}
use Rattle.call_slots.specs.Refusals.{Test, test, differ, first_of, after_reading}
use Rattle.plan_plans.specs.Call.{outcome_for}
use Rattle.call_slots.specs.Arguments.{arguments_of, plan_for, rules_for}
use Rattle.call_fill.specs.declared.FillLengths.{FillLengths}
use Rattle.call_slots.specs.Answer.{CallAnswer}

abbrev pub fill_lengths : List ℕ → List ℕ → List ℕ → List ℕ → FillLengths
fill_lengths values image area copies = record { values = length values; image = length image; area = length area; copies = length copies }

-- ---- the answer

-- 12: "last copy ends at C, C above 0, and copy buffer under C, base not a multiple of 8, or base + C over 2^64 - 1": the copies end at
-- e, the copy buffer has n bytes
unfoldable pub bad_copies : ℕ → ℕ → ℕ → Bool
bad_copies e n base =
    pick (eqb e 0) false (pick (ltb n e) true (pick (differ (base % 8) 0) true (ltb (2 ^ 64 - 1) (base + e))))

-- No. 1: "a needed hidden address over [2^32 - 1] gives 12": one that a word of w bytes has no room for
abbrev pub high_address : ℕ → ResultPlaces → ℕ → Bool
high_address w ResultPlaces.Nothing address = false
high_address w (ResultPlaces.Registers s) address = false
high_address w (ResultPlaces.Hidden s) address = ltb (2 ^ (8 * w) - 1) address

-- "After reading: .. 15, 10, 11, 12": of buffers of these lengths, where the plan asks for values, an area and copies of these sizes,
-- and the hidden address is too high or not
unfoldable pub fill_tests : FillLengths → ℕ → ℕ → ℕ → ℕ → Bool → List Test
fill_tests have values area copies base high =
    test (differ have.image image_bytes) CallRefusal.ImageSize
    ∷ test (differ have.values values) CallRefusal.ValuesSize
    ∷ test (ltb have.area area) CallRefusal.AreaTooShort
    ∷ test (bad_copies copies have.copies base) CallRefusal.BadCopies
    ∷ test high CallRefusal.BadCopies
    ∷ []

-- "1 first, then left to right .. After reading: ..": the answer for a signature's bytes s
unfoldable pub fill_answer : List ℕ → FillLengths → ℕ → ℕ → CallAnswer
fill_answer s have base hidden =
    after_reading (outcome_for s)
    (first_of
    (fill_tests have (plan_for s).values (plan_for s).area (plan_for s).copies base (high_address (word_of (rules_for s)) (plan_for s).result hidden)))

-- ---- the buffers

-- every slot and copy that filling names: the hidden address's register, and those of each argument
unfoldable pub filled_slots : List ℕ → List ℕ → ℕ → ℕ → List Slot
filled_slots s values base hidden =
    hidden_slots (word_of (rules_for s)) (plan_for s).result hidden ++ slots_of_all (rules_for s) base (arguments_of s) values

-- "Filling changes only named slots and copies"; "Every refusal leaves all buffers .. untouched"
unfoldable pub fill_buffers : List ℕ → List ℕ → ℕ → ℕ → CallAnswer → Buffers → Buffers
fill_buffers s values base hidden answer b = pick (is_ok answer) (put_all (filled_slots s values base hidden) b) b
