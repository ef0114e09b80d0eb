-- The reading's outcome where no argument is unclear; else 29 at the first that is.
use Rattle.std.proofs.Common.{Err}
use mathlib.Core.Path.{◌≡◌, sym, ap, ◌∙◌}
use native.Mathlib.Omega.{arith}
use Prim.Native.Nat.{suc, ◌-◌}
use Rattle.sig_signatures.proofs.Types.{answer-plannable}
use Rattle.plan_plans.proofs.Calls.{clear-outcome, unclear-outcome}
use Rattle.plan_planning.proofs.later_outcome.Goals as goal

pub first_unclear-unclear-requires : goal.first_unclear-unclear-requires
first_unclear-unclear-requires c = rw c.requires (answer-plannable _)

pub returns-then-unclear-eq0 : goal.returns-then-unclear-eq0
returns-then-unclear-eq0 c = clear-outcome _ _ c.requires (sym c.first_unclear-unclear.ensures ∙ c.if-unclear-eq0.true)

pub overflow_sub-unclear : goal.overflow_sub-unclear
overflow_sub-unclear c = omega arith

pub returns : goal.returns
returns c =
    let some : c.first_unclear-unclear.result ≡ suc (c.first_unclear-unclear.result - 1) = omega (arith, c.if-unclear-eq0.false) in
    ap Err c.unclear_fault.ensures
    ∙ unclear-outcome _ _ _ c.requires (sym c.first_unclear-unclear.ensures ∙ some)
