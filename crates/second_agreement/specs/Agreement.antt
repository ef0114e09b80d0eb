-- 02, No. 14: "Show that both planners agree on every accepted signature and refuse alike". The first planner's places are said in the
-- second one's terms; a run of no registers or no bytes says nothing of where it would start. Assumes nothing.
use Rattle.std.specs.Prelude.{ℕ, zero, suc, ◌+◌, ◌≤◌, ◌<◌, ◌≡◌, List, get_or}
use Rattle.sig_signatures.specs.Read.{signature_of}
use Rattle.plan_places.specs.declared.RegisterRange.{RegisterRange}
use Rattle.plan_places.specs.declared.ByteRange.{ByteRange}
use Rattle.plan_places.specs.declared.Span.{Span}
use Rattle.plan_places.specs.declared.ResultPlaces.{ResultPlaces}
use Rattle.plan_places.specs.Spots.{Spot, general, floating, area, copies, InBytes, Owns}
use Rattle.plan_plans.specs.declared.Plan.{Plan}
use Rattle.plan_plans.specs.Plan.{plan_answer}
use Rattle.plan_plans.specs.Call.{call_of}
use Rattle.plan_plans.specs.Disjoint.{span_at}
use Rattle.second_parameters.specs.declared.Run.{Run}
use Rattle.second_parameters.specs.declared.Parameter.{Parameter}
use Rattle.second_parameters.specs.declared.Returned.{Returned}
use Rattle.second_parameters.specs.Values.{run_of, no_parameter}
use Rattle.second_planner.specs.declared.SecondPlan.{SecondPlan}
use Rattle.second_planner.specs.Answer.{second_answer}

abbrev pub range_run : RegisterRange → Run
range_run r = run_of r.first r.count

abbrev pub byte_run : ByteRange → Run
byte_run b = run_of b.start b.length

-- an argument's registers, offset in the area, memory, copy and by-reference mark
unfoldable pub parameter_of : Span → Parameter
parameter_of s = record {
  general = range_run s.general;
  floating = range_run s.floating;
  field = byte_run s.home;
  memory = byte_run s.memory;
  copy = byte_run s.copy;
  reference = s.indirect;
}

-- a result in registers is in those of one bank
abbrev pub returned_in : Span → ℕ → Returned
returned_in s zero = Returned.General (range_run s.general)
returned_in s (suc n) = Returned.Floating (range_run s.floating)

unfoldable pub returned_of : ResultPlaces → Returned
returned_of ResultPlaces.Nothing = Returned.Nothing
returned_of (ResultPlaces.Registers s) = returned_in s s.floating.count
returned_of (ResultPlaces.Hidden s) = Returned.Hidden (range_run s.general)

abbrev pub parameter_at : SecondPlan → ℕ → Parameter
parameter_at q i = get_or q.parameters i no_parameter

pub record PlansAgree (p : Plan) (q : SecondPlan) : Type 0 where
  -- "refuse alike": accepted with the same count of items, or refused for the same reason at the same place, after as many items
  pub outcome : q.outcome ≡ p.outcome
  pub convention : q.convention ≡ p.convention
  pub ellipsis : q.ellipsis ≡ p.ellipsis
  pub count : q.count ≡ p.count
  -- the same places for every argument
  pub places : (i : ℕ) → parameter_at q i ≡ parameter_of (span_at p i)
  pub area : q.area ≡ p.area
  pub values : q.values ≡ p.values
  pub copies : q.copies ≡ p.copies
  pub result : q.result ≡ returned_of p.result

-- the two planners, on any bytes at all
abbrev pub PlannersAgree : Type 0
PlannersAgree = (s : List ℕ) → PlansAgree (plan_answer (call_of s)) (second_answer (signature_of s))

-- ---- said spot by spot

abbrev pub InRun : Run → ℕ → Type 0
InRun r n = (r.first ≤ n) × (n < r.first + r.count)

-- what belongs to a parameter, as `Owns` says it of a span
abbrev pub ParameterOwns : Parameter → Spot → Type 0
ParameterOwns p (general n) = InRun p.general n
ParameterOwns p (floating n) = InRun p.floating n
ParameterOwns p (area n) = InRun p.field n
ParameterOwns p (copies n) = InRun p.copy n

-- each argument has the same registers, bytes of the area and bytes of the copies in both plans, and the same bytes of the area hold it
pub record SameSpots (p : Plan) (q : SecondPlan) : Type 0 where
  pub only : (i : ℕ) (x : Spot) → ParameterOwns (parameter_at q i) x → Owns (span_at p i) x
  pub all : (i : ℕ) (x : Spot) → Owns (span_at p i) x → ParameterOwns (parameter_at q i) x
  pub stored : (i n : ℕ) → InRun (parameter_at q i).memory n → InBytes (span_at p i).memory n
  pub storing : (i n : ℕ) → InBytes (span_at p i).memory n → InRun (parameter_at q i).memory n
  pub reference : (i : ℕ) → (parameter_at q i).reference ≡ (span_at p i).indirect

abbrev pub PlannersShare : Type 0
PlannersShare = (s : List ℕ) → SameSpots (plan_answer (call_of s)) (second_answer (signature_of s))

-- so that what is proved of the first plan holds of the second: no register and no byte belongs to two of its parameters
abbrev pub SecondDisjoint : Type 0
SecondDisjoint = (s : List ℕ) (i j : ℕ) (x : Spot) → (i ≡ j → ⊥)
    → ParameterOwns (parameter_at (second_answer (signature_of s)) i) x → ParameterOwns (parameter_at (second_answer (signature_of s)) j) x → ⊥
