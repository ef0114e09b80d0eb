-- For proofs and helpers alone: no claim cites this file.
-- The plan by the reader's answer, and from the arguments on: what the loops of the planners answer;
-- and what the writers of a plan ask. Assumes nothing.
use Rattle.sig_items.specs.declared.Fault.{Fault}
use Rattle.sig_types.specs.declared.ValueType.{ValueType}
use Rattle.std.specs.Prelude.{ℕ, zero, suc, ◌+◌, ◌≤◌, Bool, ltb, length, Ok, Err, Result, Option}
use Rattle.base_words.specs.Basics.{pick}
use Rattle.base_conventions.specs.declared.Convention.{Convention}
use Rattle.sig_types.specs.Trees.{Trees}
use Rattle.sig_items.specs.declared.Refusal.{Refusal}
use Rattle.sig_items.specs.Reading.{Reading, fault, got, no, later}
use Rattle.sig_signatures.specs.declared.SignatureRead.{SignatureRead}
use Rattle.sig_signatures.specs.Limits.{max_arguments}
use Rattle.sig_signatures.specs.Signature.{Signature}
use Rattle.sig_signatures.specs.Types.{types_of, types_in}
use Rattle.sig_reader.specs.Argument.{unclear_fault}
use Rattle.plan_places.specs.Step.{rules_of}
use Rattle.plan_places.specs.Places.{Numbered}
use Rattle.plan_places.specs.Helpers.{ResultNumbered}
use Rattle.plan_plans.specs.declared.Plan.{Plan}
use Rattle.plan_plans.specs.declared.Measured.{Measured}
use Rattle.plan_plans.specs.Plan.{plan_in, refused_plan, start_in, measure_of}
use Rattle.plan_plans.specs.Call.{first_unclear}
use Rattle.plan_plans.specs.Disjoint.{span_at}

-- the plan of the reader's answer, as `plan_answer` of its reading (law `planned-answer`)
abbrev pub planned_as : Result ℕ Fault → SignatureRead → Plan
planned_as (Ok n) g = plan_in n g.convention g.ellipsis g.result (types_in g)
planned_as (Err f) g = refused_plan f

unfoldable pub planned : SignatureRead → Plan
planned g = planned_as g.outcome g

-- from the arguments on, in a signature of `all` bytes, where n items came before theirs: as `with_arguments` of the reader
abbrev pub plan_with : Convention → Bool → Option ValueType → ℕ → ℕ → Reading Trees → Plan
plan_with c v r n all (got ts next m) = pick (ltb next all) (refused_plan (fault Refusal.TrailingBytes next (n + m))) (plan_in (n + m) c v r (types_of c ts))
plan_with c v r n all (no f) = refused_plan (later n f)

-- the number of the first unclear argument of the reader's answer, counted from 1, as `unclear_in` of its reading
abbrev pub unclear_of : SignatureRead → ℕ
unclear_of g = first_unclear g.convention (rules_of g.convention) (start_in g.convention g.result) 0 (types_in g)

-- and of what is read from the arguments on, in a signature of `all` bytes, as `plan_with` of the plan
abbrev pub unclear_with : Convention → Option ValueType → ℕ → Reading Trees → ℕ
unclear_with c r all (got ts next m) = pick (ltb next all) 0 (first_unclear c (rules_of c) (start_in c r) 0 (types_of c ts))
unclear_with c r all (no f) = 0

-- of a reading x whose own sizes are m, where the first unclear argument is number u, counted from 1
unfoldable pub measured_by : ℕ → Measured → Reading Signature → Measured
measured_by zero m x = m
measured_by (suc i) m x = measure_of (refused_plan (unclear_fault i x))

-- what the writers of a plan, printed or stored, ask of it; every plan has it (law `answer-printable`)
pub record Printable (p : Plan) : Type 0 where
  pub few : p.count ≤ max_arguments
  pub room : p.count ≤ length p.spans
  pub spans : (i : ℕ) → Numbered (span_at p i)
  pub result : ResultNumbered p.result
