-- The first cursor has room, and a word is small.
use Rattle.plan_places.proofs.Bounds.{rules-lawful, fresh-roomy, word-most}
use Rattle.plan_places.specs.Step.{rules_of}
use native.Mathlib.Omega.{arith}
use Rattle.plan_placing.proofs.hidden_step.Goals as goal

pub step-requires : goal.step-requires
step-requires c =
    let l = rules-lawful c.args.c in
    (rw c.call_rules_of-r.ensures l, rw c.cursor_of-k.ensures (fresh-roomy _), rw (c.word_of-word.ensures, c.call_rules_of-r.ensures) (omega (arith, word-most (rules_of c.args.c) l)))

pub returns : goal.returns
returns c = simp (c.word_of-word.ensures, c.cursor_of-k.ensures, c.call_rules_of-r.ensures) at c.step.ensures
