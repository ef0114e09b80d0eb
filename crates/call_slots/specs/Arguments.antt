-- The arguments of a signature with their places: the reader's types and the planner's spans. Assumes nothing.
use Rattle.std.specs.Prelude.{ℕ, List}
use Rattle.sig_signatures.specs.declared.SignatureRead.{SignatureRead}
use Rattle.sig_signatures.specs.Read.{signature_of}
use Rattle.sig_signatures.specs.Answer.{signature_answer}
use Rattle.sig_signatures.specs.Types.{types_in}
use Rattle.plan_places.specs.declared.CallRules.{CallRules}
use Rattle.plan_places.specs.Step.{rules_of, with_ellipsis}
use Rattle.plan_plans.specs.declared.Plan.{Plan}
use Rattle.plan_plans.specs.declared.Measured.{Measured}
use Rattle.plan_plans.specs.Plan.{plan_answer}
use Rattle.plan_plans.specs.Call.{outcome_for}
use Rattle.call_slots.specs.Placements.{Placement, placements}

-- of a signature that was read, with its plan
unfoldable pub placements_in : SignatureRead → Plan → List Placement
placements_in g p = placements g.convention (types_in g) p.spans

-- of a signature's bytes; none of a refused one
unfoldable pub arguments_of : List ℕ → List Placement
arguments_of s = placements_in (signature_answer (signature_of s)) (plan_answer (signature_of s))

-- the plan of a signature's bytes
abbrev pub plan_for : List ℕ → Plan
plan_for s = plan_answer (signature_of s)

-- the sizes of that plan, with the outcome of the call
abbrev pub sizes_for : List ℕ → Measured
sizes_for s = record { outcome = outcome_for s; area = (plan_for s).area; values = (plan_for s).values; copies = (plan_for s).copies }

-- the rules of a signature's arguments: its convention's, and whether it has an ellipsis
abbrev pub rules_in : SignatureRead → CallRules
rules_in g = with_ellipsis g.ellipsis (rules_of g.convention)

abbrev pub rules_for : List ℕ → CallRules
rules_for s = rules_in (signature_answer (signature_of s))
