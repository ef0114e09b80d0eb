-- A view of an argument in the homed parameter area. Document 01, "What stands in a slot": "A view hands back the part of the lent parameter
-- area that is the argument's own bytes; an empty part means refused, and a check on the same inputs gives the number". Assumes nothing.
use Rattle.std.specs.Prelude.{ℕ, ◌+◌, Bool, true, List, [], ◌∷◌, ltb, leb, length, get_or, is_ok}
use Rattle.base_words.specs.Basics.{pick}
use Rattle.base_words.specs.Splice.{part}
use Rattle.sig_types.specs.declared.IntegerKind.{IntegerKind}
use Rattle.sig_types.specs.declared.ValueType.{ValueType}
use Rattle.sig_signatures.specs.Read.{signature_of}
use Rattle.sig_signatures.specs.Answer.{signature_answer}
use Rattle.plan_places.specs.declared.CallRules.{CallRules}
use Rattle.plan_plans.specs.Plan.{no_span}
use Rattle.call_slots.specs.declared.CallRefusal.{CallRefusal}
use Rattle.call_slots.specs.Forms.{own_start}
use Rattle.call_slots.specs.Placements.{Placement, placement}
use Rattle.call_slots.specs.Refusals.{Test, test, first_of, after_reading}
use Rattle.plan_plans.specs.Call.{outcome_for}
use Rattle.call_slots.specs.Arguments.{arguments_of, plan_for, rules_for}
use Rattle.call_views.specs.declared.ViewPart.{ViewPart}
use Rattle.call_home_slot.specs.Homes.{homeless}
use Rattle.call_slots.specs.Answer.{CallAnswer}

-- 24: "home or view asked of Z, or a view of an argument that isn't there", of `count`
abbrev pub no_view : CallRules → ℕ → ℕ → Bool
no_view r count index = pick (homeless r) true (leb count index)

-- "24, .. 11", where the plan asks for an area of this size
unfoldable pub view_tests : CallRules → ℕ → ℕ → ℕ → ℕ → List Test
view_tests r count index have area = test (no_view r count index) CallRefusal.NoView ∷ test (ltb have area) CallRefusal.AreaTooShort ∷ []

unfoldable pub view_answer : List ℕ → ℕ → ℕ → CallAnswer
view_answer s have index =
    after_reading (outcome_for s)
    (first_of (view_tests (rules_for s) (signature_answer (signature_of s)).count index have (plan_for s).area))

abbrev pub no_argument : Placement
no_argument = placement (ValueType.Integer IntegerKind.I8) 1 no_span

-- where an argument's own bytes start in the area
abbrev pub own_at : CallRules → Placement → ℕ
own_at r p = p.span.home.start + own_start r p.ty p.size

-- an argument's own bytes in its home
abbrev pub own_bytes : CallRules → Placement → List ℕ → List ℕ
own_bytes r p area = part (own_at r p) p.size area

unfoldable pub view_of : List ℕ → List ℕ → ℕ → List ℕ
view_of s area index = pick (is_ok (view_answer s (length area) index)) (own_bytes (rules_for s) (get_or (arguments_of s) index no_argument) area) []

-- the same bytes by their start and length
abbrev pub own_part : CallAnswer → CallRules → Placement → ViewPart
own_part a r p = record { answer = a; start = pick (is_ok a) (own_at r p) 0; length = pick (is_ok a) p.size 0 }

unfoldable pub view_part : List ℕ → ℕ → ℕ → ViewPart
view_part s have index = own_part (view_answer s have index) (rules_for s) (get_or (arguments_of s) index no_argument)
