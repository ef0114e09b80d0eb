-- The quotient and the rest.
use borrow.Author.Rules.{rules}
use Rattle.call_kept.specs.Helpers.{range_from}
use Rattle.call_kept.proofs.range_from.Goals as goal

pub returns : goal.returns
unfolding range_from
returns c = search rules
