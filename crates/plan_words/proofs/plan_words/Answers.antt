-- What comes before the arguments, then the arguments; their rows are the whole reading's entries.
use mathlib.Core.Path.{sym, ap, ◌∙◌}
use native.Mathlib.Omega.{arith}
use Rattle.base_words.specs.Splice.{overlay_whole}
use Rattle.sig_signatures.proofs.Laws.{signature-refused}
use Rattle.sig_signatures.proofs.Sound.{head-bounded}
use Rattle.plan_plans.specs.Plan.{plan_answer}
use Rattle.plan_plans.specs.Call.{called}
use Rattle.plan_plans.proofs.Measures.{plan-arguments, unclear-arguments}
use Rattle.plan_words.specs.Planned.{planned_of}
use Rattle.plan_entries.proofs.Copies.{tabled-nothing}
use Rattle.plan_words.proofs.Rows.{rows-entries, no-entries, planned-called, rows-called}
use Rattle.plan_words.proofs.plan_words.Goals as goal

pub plan_part-requires : goal.plan_part-requires
plan_part-requires c =
    let k = head-bounded _ _ _ _ _ _ _ _ c.read_head.ensures c.in-Ok.is in
    (omega arith, omega arith, k.short, omega arith)

pub returns-in-Err : goal.returns-in-Err
unfolding called plan_answer
returns-in-Err c =
    let none = signature-refused _ _ c.read_head.ensures _ c.in-Err.is in
    record {
      value = c.no_plan.ensures ∙ rw none;
      places_after = tabled-nothing c.args.places.now ∙ ap (overlay_whole c.args.places.now) (no-entries _ _ none);
    }

pub returns-in-Ok : goal.returns-in-Ok
returns-in-Ok c =
    let unclear = sym (unclear-arguments _ _ c.read_head.ensures _ _ _ _ _ _ c.in-Ok.is) in record {
      value = c.plan_part.ensures.value ∙ planned-called _ _ _ (sym (ap planned_of (plan-arguments _ _ c.read_head.ensures _ _ _ _ _ _ c.in-Ok.is))) unclear;
      places_after = c.plan_part.ensures.places_after ∙ ap (overlay_whole c.args.places.now) (rows-called _ _ _ (rows-entries _ _ c.read_head.ensures _ _ _ _ _ _ c.in-Ok.is) unclear);
    }
