-- The listing is the text of the call's outcome, of an accepted one with its plan.
use Rattle.std.proofs.Common.{sym, ◌∙◌}
use Rattle.sig_signatures.proofs.Types.{answer-plannable}
use Rattle.plan_plans.proofs.Printable.{answer-printable}
use Rattle.plan_listing.proofs.Whole.{accepted-plan, text-is}
use Rattle.plan_listing.proofs.listing.Goals as goal

pub plan_signature-requires : goal.plan_signature-requires
plan_signature-requires c = rw c.read_signature-g.ensures (answer-plannable _)

pub list_plan-requires : goal.list_plan-requires
list_plan-requires c =
    rw (c.plan_signature.ensures ∙ accepted-plan _ _ c.read_signature-g.ensures _ (sym c.outcome_of.ensures ∙ c.in-Ok.is)) (answer-printable _)

pub returns-in-Err : goal.returns-in-Err
returns-in-Err c =
    let text = rw (sym c.outcome_of.ensures ∙ c.in-Err.is) at (text-is _ _ c.read_signature-g.ensures) in
    rw (sym text) c.list_refusal.ensures

pub returns-in-Ok : goal.returns-in-Ok
returns-in-Ok c =
    let text = rw (sym c.outcome_of.ensures ∙ c.in-Ok.is) at (text-is _ _ c.read_signature-g.ensures) in
    rw (sym text, sym c.plan_signature.ensures) c.list_plan.ensures
