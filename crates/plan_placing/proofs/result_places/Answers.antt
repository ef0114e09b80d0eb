-- A hidden result is its address's place; another is placed as a first argument.
use Rattle.plan_places.proofs.Bounds.{rules-lawful, returning-lawful, fresh-roomy}
use Rattle.plan_places.specs.Step.{result_of, placed}
use mathlib.Core.Path.{sym, ◌∙◌}
use Rattle.plan_placing.proofs.result_places.Goals as goal

pub returns-then-hidden_for : goal.returns-then-hidden_for
unfolding result_of placed
returns-then-hidden_for c =
    let h = sym c.hidden_for.ensures ∙ c.if-hidden_for.true in
    simp (rw c.call_rules_of-r.ensures at h, c.hidden_step.ensures)

pub step-p-requires : goal.step-p-requires
step-p-requires c =
    let l = rules-lawful c.args.c in
    (rw (c.returning_of.ensures, c.call_rules_of-r.ensures) (returning-lawful _ l), rw c.cursor_of.ensures (fresh-roomy _), c.requires)

pub returns : goal.returns
unfolding result_of placed
returns c =
    let h = sym c.hidden_for.ensures ∙ c.if-hidden_for.false in
    simp (rw c.call_rules_of-r.ensures at h, c.step-p.ensures, c.cursor_of.ensures, c.returning_of.ensures, c.call_rules_of-r.ensures)
