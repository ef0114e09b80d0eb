-- For proofs and helpers alone: no claim cites this file.
-- What the writer asks of a plan; every plan has it (law `answer-storable`). Assumes nothing.
use Rattle.std.specs.Prelude.{ℕ}
use Rattle.plan_plans.specs.declared.Plan.{Plan}
use Rattle.plan_plans.specs.Disjoint.{span_at}
use Rattle.plan_plans.specs.Helpers.{Printable}
use Rattle.plan_stored_items.specs.Helpers.{Storable}

pub record Writable (p : Plan) : Type 0 where
  pub printable : Printable p
  pub spans : (i : ℕ) → Storable (span_at p i)
