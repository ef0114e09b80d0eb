-- For proofs and helpers alone: no claim cites this file.
-- What the loops over all arguments ask. Assumes nothing.
use Rattle.std.specs.Prelude.{ℕ}
use Rattle.base_words.specs.Basics.{All}
use Rattle.sig_signatures.specs.declared.SignatureRead.{SignatureRead}
use Rattle.plan_plans.specs.declared.Plan.{Plan}
use Rattle.call_slots.specs.Helpers.{Tabled}
use Rattle.call_slots.specs.Arguments.{placements_in, rules_in}
use Rattle.call_home_slot.specs.Helpers.{Registered}

-- all arguments
pub record AllRegistered (g : SignatureRead) (p : Plan) (i : ℕ) : Type 0 where
  pub tables : Tabled g p
  pub each : All (Registered (rules_in g) p.area i) (placements_in g p)
