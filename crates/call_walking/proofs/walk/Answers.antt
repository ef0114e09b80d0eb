-- By what was read of the words and of the item. Assumes nothing.
use mathlib.Core.Path.{sym, ap, ◌∙◌}
use Rattle.call_walker.specs.Words.{WalkerOutcome}
use Rattle.call_walking.proofs.Items.{item-declared, found, walk-lost, walk_refused, walk-item}
use Rattle.call_walking.proofs.walk.Goals as goal

pub step-requires : goal.step-requires
step-requires c = (found c.args.words.now _ (sym c.in-Walker.is ∙ c.walker_in.ensures), item-declared _ c.args.item.now _ _ _ (sym c.in-Ok.is ∙ c.read_type.ensures))

pub returns-in-Lost : goal.returns-in-Lost
returns-in-Lost c = let E = walk-lost c.args.words.now c.args.item.now c.args.base _ c.args.value.now (sym c.in-Lost.is ∙ c.walker_in.ensures) in record {
  value = ap (λ (o : WalkerOutcome). o.answer) E;
  words_after = ap (λ (o : WalkerOutcome). o.words) E;
  value_after = ap (λ (o : WalkerOutcome). o.value) E;
}

pub returns-in-Err : goal.returns-in-Err
returns-in-Err c = let E = walk_refused c.args.words.now c.args.item.now c.args.base _ c.args.value.now _ (sym c.in-Walker.is ∙ c.walker_in.ensures) _ (sym c.in-Err.is ∙ c.read_type.ensures) in record {
  value = ap (λ (o : WalkerOutcome). o.answer) E;
  words_after = ap (λ (o : WalkerOutcome). o.words) E;
  value_after = ap (λ (o : WalkerOutcome). o.value) E;
}

pub returns-in-Ok : goal.returns-in-Ok
returns-in-Ok c = let E = walk-item c.args.words.now c.args.item.now c.args.base _ c.args.value.now _ (sym c.in-Walker.is ∙ c.walker_in.ensures) _ _ _ (sym c.in-Ok.is ∙ c.read_type.ensures) in record {
  value = c.step.ensures.value ∙ ap (λ (o : WalkerOutcome). o.answer) E;
  words_after = c.step.ensures.words_after ∙ ap (λ (o : WalkerOutcome). o.words) E;
  value_after = c.step.ensures.value_after ∙ ap (λ (o : WalkerOutcome). o.value) E;
}
