-- Home: the arguments in registers, copied into the parameter area. Document 01, "What stands in a slot": "Home (PPC64) copies each argument's
-- register doublewords into the area at its offset: GPRs as they stand, an FPR in its memory form (14 possible). The hidden address's doubleword
-- and all else stay". Assumes nothing.
use Rattle.std.specs.Prelude.{ℕ, List, [], ◌∷◌, ltb, length, is_ok}
use Rattle.base_words.specs.Basics.{pick}
use Rattle.base_words.specs.Splice.{splice}
use Rattle.plan_places.specs.declared.CallRules.{CallRules}
use Rattle.plan_places.specs.Spots.{image_bytes}
use Rattle.call_slots.specs.declared.CallRefusal.{CallRefusal}
use Rattle.call_slots.specs.Placements.{Placement}
use Rattle.call_slots.specs.Refusals.{Test, test, differ, first_of, after_reading, or_else, first_of_all}
use Rattle.plan_plans.specs.Call.{outcome_for}
use Rattle.call_slots.specs.Arguments.{arguments_of, plan_for, rules_for}
use Rattle.call_home_slot.specs.Homes.{homeless, register_answer, homed_bytes}
use Rattle.call_slots.specs.Answer.{CallAnswer}

-- ---- the answer

-- "14 by argument, left to right"
unfoldable pub registers_answer : CallRules → List Placement → List ℕ → CallAnswer
registers_answer r ps image = first_of_all (λ (p : Placement). register_answer r p.ty p.span image) ps

-- "After reading: 24, 15, .. 11": of an image of i bytes and an area of `have`, where the plan asks for `area`
unfoldable pub home_tests : CallRules → ℕ → ℕ → ℕ → List Test
home_tests r i have area =
    test (homeless r) CallRefusal.NoView ∷ test (differ i image_bytes) CallRefusal.ImageSize ∷ test (ltb have area) CallRefusal.AreaTooShort ∷ []

-- of a signature's bytes s, an image, and an area of `have` bytes
unfoldable pub home_answer : List ℕ → List ℕ → ℕ → CallAnswer
home_answer s image have =
    after_reading (outcome_for s)
    (or_else (first_of (home_tests (rules_for s) (length image) have (plan_for s).area))
    (registers_answer (rules_for s) (arguments_of s) image))

-- ---- the area

-- "copies each argument's register doublewords into the area at its offset .. all else stay"
unfoldable pub homed : CallRules → List Placement → List ℕ → List ℕ → List ℕ
homed r [] image area = area
homed r (p ∷ ps) image area = homed r ps image (splice area p.span.home.start (homed_bytes r p image))

-- "Every refusal leaves all buffers .. untouched"
unfoldable pub home_area : List ℕ → CallAnswer → List ℕ → List ℕ → List ℕ
home_area s answer image area = pick (is_ok answer) (homed (rules_for s) (arguments_of s) image area) area
