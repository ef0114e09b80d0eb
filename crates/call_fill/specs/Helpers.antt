-- For proofs and helpers alone: no claim cites this file.
-- The hidden address alone of a result's places. Assumes nothing.
use Rattle.std.specs.Prelude.{Bool, true, false}
use Rattle.base_conventions.specs.declared.Convention.{Convention}
use Rattle.plan_places.specs.declared.ResultPlaces.{ResultPlaces}
use Rattle.plan_places.specs.Values.{pointer}
use Rattle.plan_places.specs.Step.{rules_of, word_of, span_of, fresh_cursor}

-- of a convention, where there is one
abbrev pub address_places : Convention → Bool → ResultPlaces
address_places c true = ResultPlaces.Hidden (span_of (rules_of c) (fresh_cursor (rules_of c)) pointer (word_of (rules_of c)))
address_places c false = ResultPlaces.Nothing
